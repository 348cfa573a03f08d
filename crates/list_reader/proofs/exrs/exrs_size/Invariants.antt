-- `list_reader::exrs::exrs_size` meets its contract. The loop's invariant: the size is that of the EXRS passed. The measure is what is left of the stretch.
use Prim.Native.Nat.{◌-◌}
use mathlib.Core.Path.{◌≡◌}
use lib.ListN.{length}
use Rattle.laws.specs.Exrs.{exrs_in}
use Rattle.laws.proofs.ExrsSizes.{Passed}
use Rattle.list_reader.proofs.exrs.exrs_size.Given as goal

abbrev pub invariant-loop-at : goal.invariant-loop-at
invariant-loop-at l = Passed l.list l.from l.to l.at × (l.size ≡ length (exrs_in l.list l.from l.at))

abbrev pub decreases-loop-at : goal.decreases-loop-at
decreases-loop-at l = l.to - l.at
