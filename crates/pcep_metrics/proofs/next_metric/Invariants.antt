-- `pcep_metrics::next_metric` meets its contract. The loop's invariant: none is passed. The measure is what is left of the message.
use Prim.Native.Nat.{◌-◌}
use lib.ListN.{length}
use Rattle.pcep_metrics.specs.Along.{NoneBetween}
use Rattle.pcep_metrics.proofs.next_metric.Given as goal

abbrev pub invariant-loop-at : goal.invariant-loop-at
invariant-loop-at l = NoneBetween l.message l.from l.at

abbrev pub decreases-loop-at : goal.decreases-loop-at
decreases-loop-at l = length l.message - l.at
