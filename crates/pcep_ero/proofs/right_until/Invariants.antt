-- `pcep_ero::right_until` meets its contract. The loop's invariant: what is left decides. The measure is what is left.
use Prim.Native.Nat.{◌-◌}
use lib.ListN.{length}
use Rattle.pcep_ero.specs.Left.{LeftDecides}
use Rattle.pcep_ero.proofs.right_until.Given as goal

abbrev pub invariant-loop-at : goal.invariant-loop-at
invariant-loop-at l = LeftDecides l.body l.at

abbrev pub decreases-loop-at : goal.decreases-loop-at
decreases-loop-at l = length l.body - l.at
