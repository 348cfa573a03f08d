-- `profile_record_checks::header::header_verdict` meets its contract: the tests are the definition's.
use borrow.Author.Rules.{rules}
use Rattle.model.specs.Profile.{header_verdict}
use Rattle.profile_record_checks.proofs.header.header_verdict.Goals as goal

pub returns-in_err-refuse_if : goal.returns-in_err-refuse_if
unfolding header_verdict
returns-in_err-refuse_if c = search rules

pub returns-in_err-refuse_if-2 : goal.returns-in_err-refuse_if-2
unfolding header_verdict
returns-in_err-refuse_if-2 c = search rules

pub returns : goal.returns
unfolding header_verdict
returns c = search rules

pub returns-then-s-lt12 : goal.returns-then-s-lt12
unfolding header_verdict
returns-then-s-lt12 c = search rules
