-- `tree_fields::put::put_marks` meets its contract. The loop's invariant: the marks of the first i entries are written.
use mathlib.Core.List.{map}
use lib.ListN.{take}
use Rattle.buffers.proofs.Copies.{Copied}
use Rattle.tree_fields.specs.Fields.{mark_of}
use Rattle.tree_fields.proofs.put.put_marks.Given as goal

abbrev pub invariant-loop-i : goal.invariant-loop-i
invariant-loop-i l = Copied (map mark_of (take l.n l.codes)) l.initial.out l.out l.i
