-- `list_reader::read::copy_sequence` meets its contract. The loop's invariant: each buffer has its part of the stops passed, wherever their EXRS stand, and the rest as it was.
use Prim.Native.Nat.{ℕ}
use mathlib.Core.List.{List}
use Rattle.buffers.proofs.Copies.{Copied}
use Rattle.list_reader.proofs.SequenceCopies.{domain, mark, node, part}
use Rattle.list_reader.proofs.read.copy_sequence.Given as goal

abbrev pub invariant-loop-i : goal.invariant-loop-i
invariant-loop-i l = ((list : List ℕ) → Copied (part list l.st domain) l.initial.domains l.domains l.i × Copied (part list l.st mark) l.initial.pinned l.pinned l.i × Copied (part list l.st node) l.initial.pins l.pins l.i)
