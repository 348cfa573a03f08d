-- `request::check_request` meets its contract: a refusal of the checks is the request's.
use mathlib.Core.Path.{◌≡◌, sym, subst, ◌∙◌}
use borrow.Author.Rules.{rules}
use Rattle.std.specs.Prelude.{Result, Err}
use Rattle.model.specs.declared.Refusal.{Refusal}
use Rattle.request.specs.declared.Query.{Query}
use Rattle.request.specs.CheckedRequest.{request_for, RequestIs}
use Rattle.request.proofs.Queries.{sequence-refused, refused-is}
use Rattle.request.proofs.check_request.Goals as goal

pub returns-in_err-request_verdict : goal.returns-in_err-request_verdict
returns-in_err-request_verdict c =
    let a = c.args in
    let x = c.in_err-request_verdict.field-0.0 in
    let same : c.from_residual.result ≡ Err x = search rules in
    subst (λ (r : Result Query Refusal). RequestIs a.profile.now a.asked a.include.now a.exclude.now r) (sym same)
    (refused-is a.profile.now a.asked a.include.now a.exclude.now x
    (sequence-refused (request_for a.profile.now a.asked a.include.now a.exclude.now) x
    (sym (c.request_verdict.ensures a.asked.source.0 a.asked.destination.0) ∙ c.in_err-request_verdict.was)))
