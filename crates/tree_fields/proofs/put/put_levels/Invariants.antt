-- `tree_fields::put::put_levels` meets its contract. The loop's invariant: the levels of the first i places are told.
use mathlib.Core.Path.{◌≡◌}
use Rattle.model.specs.Lists.{over}
use Rattle.tree_fields.specs.Fields.{levels_of}
use Rattle.tree_fields.proofs.put.put_levels.Given as goal

abbrev pub invariant-loop-i : goal.invariant-loop-i
invariant-loop-i l = l.level ≡ over (levels_of l.i l.starts) l.initial.level
