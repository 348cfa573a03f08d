-- `pcep_metrics::judge` meets its contract. The loop's invariant is `Judging`; the measure is what is left of the message.
use Prim.Native.Nat.{◌-◌}
use lib.ListN.{length}
use Rattle.pcep_metrics.specs.Along.{Passed}
use Rattle.pcep_metrics.proofs.Judging.{Judging}
use Rattle.pcep_metrics.proofs.judge.Given as goal

abbrev pub invariant-loop-at : goal.invariant-loop-at
invariant-loop-at l = (p : Passed l.message) → Judging l.message p l.at l.scan

abbrev pub decreases-loop-at : goal.decreases-loop-at
decreases-loop-at l = length l.message - l.at
