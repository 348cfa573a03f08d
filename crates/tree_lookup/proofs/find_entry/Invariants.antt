-- `tree_lookup::find_entry` meets its contract. The loop's invariant: `Narrowed`, what is known after the looks so far. The measure is what is left of the part.
use Prim.Native.Nat.{◌-◌}
use Rattle.tree_lookup.proofs.Narrowed.{Narrowed}
use Rattle.tree_lookup.proofs.find_entry.Given as goal

abbrev pub invariant-loop-low : goal.invariant-loop-low
invariant-loop-low l = Narrowed l.addresses l.at l.count l.node.0 l.low l.high l.looks

abbrev pub decreases-loop-low : goal.decreases-loop-low
decreases-loop-low l = l.high - l.low
