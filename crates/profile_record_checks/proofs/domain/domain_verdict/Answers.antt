-- `profile_record_checks::domain::domain_verdict` meets its contract: the three tests are the definition's.
use borrow.Author.Rules.{rules}
use Rattle.model.specs.Profile.{domain_verdict}
use Rattle.profile_record_checks.proofs.domain.domain_verdict.Goals as goal

pub returns-in_err-refuse_if : goal.returns-in_err-refuse_if
unfolding domain_verdict
returns-in_err-refuse_if c = search rules

pub returns-in_err-refuse_if-2 : goal.returns-in_err-refuse_if-2
unfolding domain_verdict
returns-in_err-refuse_if-2 c = search rules

pub returns : goal.returns
unfolding domain_verdict
returns c = search rules
