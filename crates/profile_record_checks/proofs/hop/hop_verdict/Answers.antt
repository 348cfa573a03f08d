-- `profile_record_checks::hop::hop_verdict` meets its contract: the three tests are the definition's.
use borrow.Author.Rules.{rules}
use Rattle.model.specs.Profile.{hop_verdict}
use Rattle.profile_record_checks.proofs.hop.hop_verdict.Goals as goal

pub returns-in_err-refuse_if : goal.returns-in_err-refuse_if
unfolding hop_verdict
returns-in_err-refuse_if c = search rules

pub returns-in_err-refuse_if-2 : goal.returns-in_err-refuse_if-2
unfolding hop_verdict
returns-in_err-refuse_if-2 c = search rules

pub returns : goal.returns
unfolding hop_verdict
returns c = search rules
