-- `request::checks::request_verdict` meets its contract: the checks are those of `request_verdict`, in its order.
use borrow.Author.Rules.{rules}
use Rattle.model.specs.Request.{request_verdict}
use Rattle.request.proofs.checks.request_verdict.Goals as goal

pub returns-in_err-start_verdict : goal.returns-in_err-start_verdict
unfolding request_verdict
returns-in_err-start_verdict c source destination = search rules

pub returns-in_err-limits_verdict : goal.returns-in_err-limits_verdict
unfolding request_verdict
returns-in_err-limits_verdict c source destination = search rules

pub returns-in_err-sizes_verdict : goal.returns-in_err-sizes_verdict
unfolding request_verdict
returns-in_err-sizes_verdict c source destination = search rules

pub returns : goal.returns
unfolding request_verdict
returns c source destination = search rules
