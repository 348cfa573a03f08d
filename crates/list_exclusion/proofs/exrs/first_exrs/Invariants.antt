-- `list_exclusion::exrs::first_exrs` meets its contract. The loop's invariant: what is left of the stretch carries what all of it does. The measure is what is left.
use Prim.Native.Nat.{◌-◌}
use mathlib.Core.Path.{◌≡◌}
use Rattle.laws.specs.Exrs.{Stretch, carried_in}
use Rattle.list_exclusion.proofs.exrs.first_exrs.Given as goal

abbrev pub invariant-loop-at : goal.invariant-loop-at
invariant-loop-at l = Stretch l.list l.at l.to × (carried_in l.list l.at l.to ≡ carried_in l.list l.from l.to)

abbrev pub decreases-loop-at : goal.decreases-loop-at
decreases-loop-at l = l.to - l.at
