-- `request::read_query` meets its contract: a refusal of the include list, or its meaning as a query.
use mathlib.Core.Path.{◌≡◌, sym, ap, subst, ◌∙◌}
use borrow.Author.Rules.{rules}
use Rattle.std.specs.Prelude.{Result, Err}
use Rattle.model.specs.declared.Refusal.{Refusal}
use Rattle.model.specs.Profile.{layout_in}
use Rattle.model.specs.Request.{Request}
use Rattle.laws.proofs.AcceptedRequest.{PassedRequest, passed-request}
use Rattle.list_include.specs.Reading as R
use Rattle.profile_check.proofs.Access.{whole-domains, short_areas}
use Rattle.request.specs.declared.Query.{Query}
use Rattle.request.specs.CheckedRequest.{request_for, RequestIs}
use Rattle.request.proofs.Queries.{sequence-passed, refused-is, query-is}
use Rattle.request.proofs.read_query.Goals as goal
use Rattle.request.proofs.read_query.Goals.{Start}

abbrev request : Start → Request
request c = request_for c.args.profile.now c.args.asked c.args.include.now c.args.exclude.now

passed : (c : Start) → PassedRequest (request c)
passed c = passed-request (request c) c.requires

pub read_list-requires-clause-whole_domains : goal.read_list-requires-clause-whole_domains
read_list-requires-clause-whole_domains c =
    let p = passed (goal.at.read_list-requires-clause-whole_domains c).Start in
    let P = c.args.profile.now in
    (whole-domains (layout_in P) P p.profile, short_areas (layout_in P) P p.profile, p.ingress)

pub read_list-requires-clause-list_len_bound : goal.read_list-requires-clause-list_len_bound
read_list-requires-clause-list_len_bound c = let p = passed (goal.at.read_list-requires-clause-list_len_bound c).Start in (p.include-size, p.include-form)

pub returns-in_err-st : goal.returns-in_err-st
returns-in_err-st c =
    let a = c.args in
    let x = c.in_err-st.field-0.0 in
    let same : c.from_residual.result ≡ Err x = search rules in
    subst (λ (r : Result Query Refusal). RequestIs a.profile.now a.asked a.include.now a.exclude.now r) (sym same)
    (refused-is a.profile.now a.asked a.include.now a.exclude.now x
    (sequence-passed (request (goal.at.returns-in_err-st c).Start) c.requires ∙ sym c.read_list.ensures.means ∙ ap (R.read_of (R.state_stops a.include.now)) c.in_err-st.was))

pub returns : goal.returns
returns c =
    let a = c.args in
    let st = c.in_ok-st.st in
    let kept = c.read_list.ensures.sound st c.in_ok-st.was in
    query-is a.profile.now a.asked a.include.now a.exclude.now st (passed (goal.at.returns c).Start) kept.0 kept.1 (sequence-passed (request (goal.at.returns c).Start) c.requires)
    (sym c.read_list.ensures.means ∙ ap (R.read_of (R.state_stops a.include.now)) c.in_ok-st.was)
