-- `profile_record_checks::run::run_end` meets its contract. The loop's invariant: every record up to the one before `i` passed, and the code holds the start and the first words of that one
-- (`Running`).
use Rattle.profile_record_checks.proofs.Runs.{Running}
use Rattle.profile_records.specs.Layout.{layout_of}
use Rattle.profile_record_checks.proofs.run.run_end.Given as goal

abbrev pub invariant-loop-i : goal.invariant-loop-i
invariant-loop-i l = Running (layout_of l.layout) l.s l.first l.hops l.at l.before.pair l.before.tail l.before.head l.i
