-- `pcep_ero::ero_verdict` meets its contract. The loop's invariant: what is left from the offset on is refused as the whole body is. The measure is what is left.
use Prim.Native.Nat.{◌-◌}
use lib.ListN.{length}
use Rattle.pcep_ero.specs.Left.{LeftDecides}
use Rattle.pcep_ero.proofs.ero_verdict.Given as goal

abbrev pub invariant-loop-at : goal.invariant-loop-at
invariant-loop-at l = LeftDecides l.body l.at

abbrev pub decreases-loop-at : goal.decreases-loop-at
decreases-loop-at l = length l.body - l.at
