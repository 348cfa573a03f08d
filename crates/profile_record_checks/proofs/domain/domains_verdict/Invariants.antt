-- `profile_record_checks::domain::domains_verdict` meets its contract. The loop's invariant: the records from `i` on decide.
use Rattle.model.specs.Profile.{domain_verdict}
use Rattle.profile_record_checks.proofs.Turned.{Turned}
use Rattle.profile_record_checks.proofs.domain.domains_verdict.Given as goal

abbrev pub invariant-loop-i : goal.invariant-loop-i
invariant-loop-i l = Turned (domain_verdict l.s) l.domains l.i
