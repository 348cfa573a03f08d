-- `list_writer::sizes::list_size` meets its contract. The loop's invariant: the size so far and what is left from place i on are the written list's; a domain takes at
-- most 36 bytes beside its EXRS.
use Prim.Native.Nat.{◌≤◌, ◌+◌, ◌*◌}
use mathlib.Core.Path.{◌≡◌}
use lib.ListN.{length}
use Rattle.model.specs.Profile.{domains}
use Rattle.model.specs.WrittenList.{written, stops}
use Rattle.laws.proofs.Stops.{bytes_before}
use Rattle.list_writer.proofs.Steps.{left}
use Rattle.list_writer.proofs.sizes.list_size.Given as goal

abbrev pub invariant-loop-i : goal.invariant-loop-i
invariant-loop-i l =
    (l.size ≤ 36 * l.i + bytes_before l.lent.counts.now l.i)
    × (l.size + length (left l.profile l.lent.indexes.now l.lent.marks.now l.lent.nodes.now l.lent.counts.now l.lent.exrs.now l.i l.before) ≡ length (written (domains l.profile) (stops l.lent.indexes.now l.lent.marks.now l.lent.nodes.now l.lent.counts.now l.lent.exrs.now)))
