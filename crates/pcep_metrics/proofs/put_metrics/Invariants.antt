-- `pcep_metrics::put_metrics` meets its contract. The loop's invariant: the METRICs passed are written, field by field, and the others are left (`Putting`).
use Rattle.pcep_model.specs.Metrics.{metrics}
use Rattle.pcep_metrics.specs.Along.{Passed, kind_of, flags_of, value_of}
use Rattle.pcep_metrics.proofs.Putting.{Written, Putting}
use Rattle.pcep_metrics.proofs.put_metrics.Given as goal

abbrev pub invariant-loop-i : goal.invariant-loop-i
invariant-loop-i l =
    ((p : Passed l.message) → Putting l.message p l.at l.i)
    × (Written kind_of (metrics l.message) l.initial.kinds l.i l.kinds)
    × (Written flags_of (metrics l.message) l.initial.flags l.i l.flags)
    × (Written value_of (metrics l.message) l.initial.values l.i l.values)
