-- `list_writer::writer::put_all` meets its contract. The loop's invariant: were what is left from place i on put now, the buffer would be the one asked for; it has room
-- for that, and the EXRS of place i start behind those of the domains before.
use Prim.Native.Nat.{◌+◌}
use mathlib.Core.Path.{◌≡◌}
use lib.ListN.{length}
use Rattle.model.specs.Lists.{over}
use Rattle.model.specs.Profile.{domains}
use Rattle.model.specs.WrittenList.{written, stops}
use Rattle.laws.proofs.Stops.{bytes_before}
use Rattle.buffers.specs.Placed.{placed}
use Rattle.list_writer.proofs.Steps.{left}
use Rattle.list_writer.proofs.writer.put_all.Given as goal

abbrev pub invariant-loop-i : goal.invariant-loop-i
invariant-loop-i l =
    (l.from ≡ bytes_before l.lent.counts.now l.i)
    × (length l.out ≡ length l.initial.out)
    × (l.at + length (left l.profile l.lent.indexes.now l.lent.marks.now l.lent.nodes.now l.lent.counts.now l.lent.exrs.now l.i l.before) ≡ length (written (domains l.profile) (stops l.lent.indexes.now l.lent.marks.now l.lent.nodes.now l.lent.counts.now l.lent.exrs.now)))
    × (placed l.at (left l.profile l.lent.indexes.now l.lent.marks.now l.lent.nodes.now l.lent.counts.now l.lent.exrs.now l.i l.before) l.out ≡ over (written (domains l.profile) (stops l.lent.indexes.now l.lent.marks.now l.lent.nodes.now l.lent.counts.now l.lent.exrs.now)) l.initial.out)
