-- `path_calls::routes::first_route` meets its contract, check by check in document 01's order.
use mathlib.Core.Path.{◌≡◌, sym, subst, ◌∙◌}
use Prim.Native.Nat.{ℕ, suc}
use borrow.Author.Rules.{rules}
use Rattle.std.specs.Prelude.{Ok, Err}
use Rattle.model.specs.Calls.{Outcome}
use Rattle.path_answers.specs.PathReply.{ReplyIs}
use Rattle.path_calls.proofs.Outcomes.{first_refused, first_unlent, first_searched, room-there}
use Rattle.path_calls.proofs.routes.first_route.Goals as goal

pub returns-in_err-q : goal.returns-in_err-q
returns-in_err-q c =
    let a = c.args in
    let why = c.in_err-q.field-0.0 in
    let known = c in
    let out : c.from_residual.result ≡ Err why = search rules in
    subst (ReplyIs _ a.room) (sym out) (first_refused a.profile.now a.asked a.include.now a.exclude.now _ c.check_request.ensures a.room why (c.in_err-q.was))

pub returns-in_err-room_verdict : goal.returns-in_err-room_verdict
returns-in_err-room_verdict c =
    let a = c.args in
    let why = c.in_err-room_verdict.field-0.0 in
    let known = c in
    let out : c.from_residual-in_err-room_verdict.result ≡ Err why = search rules in
    subst (ReplyIs _ a.room) (sym out)
    (first_unlent a.profile.now a.asked a.include.now a.exclude.now _ c.check_request.ensures a.room c.in_ok-q.q (c.in_ok-q.was) why
    (sym c.room_verdict.ensures ∙ c.in_err-room_verdict.was))

pub returns : goal.returns
returns c =
    let a = c.args in
    let q = c.in_ok-q.q in
    let fits = sym c.room_verdict.ensures ∙ c.in_ok-room_verdict.was in
    subst (λ (o : Outcome ℕ). ReplyIs o a.room (Ok c.sought_route.result))
    (sym (first_searched a.profile.now a.asked a.include.now a.exclude.now _ c.check_request.ensures a.room q (c.in_ok-q.was) fits))
    (c.sought_route.ensures a.room (room-there (suc q.count) a.room fits))
