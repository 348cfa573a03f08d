-- `list_reader::exrs::copy_exrs` meets its contract. The loop's invariant: the EXRS of the domains passed are put, and how many bytes each has.
use mathlib.Core.Path.{◌≡◌}
use lib.ListN.{length}
use Rattle.laws.specs.Stops.{stretch_start}
use Rattle.buffers.specs.Placed.{Put}
use Rattle.buffers.proofs.Copies.{Copied}
use Rattle.list_reader.proofs.SequenceCopies.{size, part, passed}
use Rattle.list_reader.proofs.exrs.copy_exrs.Given as goal

abbrev pub invariant-loop-i : goal.invariant-loop-i
invariant-loop-i l =
    (l.from ≡ stretch_start l.st.stops l.i)
    × Put 0 (passed l.list l.st l.i) l.initial.exrs l.exrs l.at
    × (length l.exrs ≡ length l.initial.exrs)
    × Copied (part l.list l.st size) l.initial.counts l.counts l.i
