-- `list_writer::writable::some_twice` meets its contract. The loop's invariant: the indexes from i on are all different just when all are.
use mathlib.Core.Path.{◌≡◌}
use lib.ListN.{drop}
use Rattle.model.specs.Lists.{all_different}
use Rattle.list_writer.proofs.writable.some_twice.Given as goal

abbrev pub invariant-loop-i : goal.invariant-loop-i
invariant-loop-i l = all_different (drop l.i l.indexes) ≡ all_different l.indexes
