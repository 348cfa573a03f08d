-- `pcep_reply_writer::parts::put_metrics` meets its contract. The loop's invariant: the METRICs passed are put.
use Prim.Native.Nat.{◌+◌, ◌*◌}
use mathlib.Core.Path.{◌≡◌}
use lib.ListN.{take}
use Rattle.model.specs.Lists.{each}
use Rattle.buffers.specs.Placed.{Put}
use Rattle.pcep_model.specs.Pcrep.{written_metric, metrics_of}
use Rattle.pcep_reply_writer.proofs.parts.put_metrics.Given as goal

abbrev pub invariant-loop-i : goal.invariant-loop-i
invariant-loop-i l = (l.at ≡ l.start + 12 * l.i) × Put l.start (each written_metric (take l.i (metrics_of l.kinds l.flags l.values))) l.initial.out l.out l.at
