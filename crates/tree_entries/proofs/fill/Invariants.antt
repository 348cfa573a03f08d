-- `tree_entries::fill` meets its contract. The loop's invariant: the list is as after so many entries are written.
use mathlib.Core.Path.{◌≡◌}
use Rattle.tree_entries.proofs.Filled.{after}
use Rattle.tree_entries.proofs.fill.Given as goal

abbrev pub invariant-loop-i : goal.invariant-loop-i
invariant-loop-i l = l.entry-items ≡ after l.n l.tree.level l.tree.addresses l.tree.reaches l.initial.entry-items l.i
