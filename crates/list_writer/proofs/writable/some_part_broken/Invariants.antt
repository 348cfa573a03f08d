-- `list_writer::writable::some_part_broken` meets its contract. The loop's invariant: some domain's bytes from place i on are broken just when some of all are, and those
-- of place i start behind those before.
use mathlib.Core.Path.{◌≡◌}
use Rattle.laws.proofs.Stops.{bytes_before}
use Rattle.list_writer.specs.Writing.{some_part_broken}
use Rattle.list_writer.proofs.Stretches.{broken_from}
use Rattle.list_writer.proofs.writable.some_part_broken.Given as goal

abbrev pub invariant-loop-count : goal.invariant-loop-count
invariant-loop-count l = (l.from ≡ bytes_before l.counts l.count-index) × (broken_from l.counts l.exrs l.count-index ≡ some_part_broken l.counts l.exrs)
