-- `path_calls::routes::next_route` meets its contract, check by check in document 01's order.
use mathlib.Core.Path.{◌≡◌, sym, subst, ◌∙◌}
use Prim.Native.Nat.{ℕ, suc}
use borrow.Author.Rules.{rules}
use lib.ListN.{length}
use Rattle.std.specs.Prelude.{Ok, Err}
use Rattle.model.specs.Calls.{Outcome}
use Rattle.path_answers.specs.PathReply.{ReplyIs}
use Rattle.path_calls.proofs.Outcomes.{next_refused, next-unlent, next-searched, given-fits}
use Rattle.path_calls.proofs.routes.next_route.Goals as goal

pub returns-in_err-q : goal.returns-in_err-q
returns-in_err-q c =
    let a = c.args in
    let why = c.in_err-q.field-0.0 in
    let known = c in
    let out : c.from_residual.result ≡ Err why = search rules in
    subst (ReplyIs _ a.room) (sym out) (next_refused a.profile.now a.asked a.include.now a.exclude.now _ c.check_request.ensures a.room why (c.in_err-q.was) a.given.now)

pub returns-in_err-given_verdict : goal.returns-in_err-given_verdict
returns-in_err-given_verdict c =
    let a = c.args in
    let why = c.in_err-given_verdict.field-0.0 in
    let known = c in
    let out : c.from_residual-in_err-given_verdict.result ≡ Err why = search rules in
    subst (ReplyIs _ a.room) (sym out)
    (next-unlent a.profile.now a.asked a.include.now a.exclude.now _ c.check_request.ensures a.room c.in_ok-q.q (c.in_ok-q.was) a.given.now why
    (sym c.given_verdict.ensures ∙ c.in_err-given_verdict.was))

pub returns : goal.returns
returns c =
    let a = c.args in
    let q = c.in_ok-q.q in
    let passed = sym c.given_verdict.ensures ∙ c.in_ok-given_verdict.was in
    subst (λ (o : Outcome ℕ). ReplyIs o a.room (Ok c.sought_route.result))
    (sym (next-searched a.profile.now a.asked a.include.now a.exclude.now _ c.check_request.ensures a.room q (c.in_ok-q.was) a.given.now passed))
    (c.sought_route.ensures a.room (given-fits (length a.given.now) (suc q.count) a.room passed).1)
