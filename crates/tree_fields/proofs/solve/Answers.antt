-- `tree_fields::solve` meets its contract: what the checks refuse is refused, and what they accept is the query's search.
use mathlib.Core.Path.{◌≡◌, sym, subst}
use borrow.Author.Rules.{rules}
use Rattle.std.specs.Prelude.{Result, Err}
use Rattle.model.specs.declared.Refusal.{Refusal}
use Rattle.model.specs.declared.TreeEntry.{TreeEntry}
use Rattle.model.specs.Profile.{layout_in}
use Rattle.model.specs.Request.{Request}
use Rattle.model.specs.Calls.{Outcome, build_tree}
use Rattle.laws.specs.Lists.{lists_of}
use Rattle.request.specs.Query.{query_stops, search_for, in_round, round_for}
use Rattle.request.specs.CheckedRequest.{request_for}
use Rattle.request.proofs.Requests.{refused-request, accepted-request, round-request, search-request}
use Rattle.tree_fields.specs.declared.TreeResult.{TreeResult}
use Rattle.tree_fields.specs.TreeResult.{TreeResultIs}
use Rattle.tree_fields.proofs.Outcomes.{tree-refused, tree-accepted}
use Rattle.tree_fields.proofs.solve.Goals as goal
use Rattle.tree_fields.proofs.solve.Goals.{Start}

abbrev request : Start → Request
request c = request_for c.args.profile.now c.args.asked c.args.include.now c.args.exclude.now

pub returns-in_err-q : goal.returns-in_err-q
returns-in_err-q c =
    let a = c.args in
    let why = c.in_err-q.field-0.0 in
    let req = request (goal.at.returns-in_err-q c).Start in
    let same : c.from_residual.result ≡ Err why = search rules in
    subst (λ (r : Result TreeResult Refusal). TreeResultIs (build_tree req a.room) a.room a.levels.now.addresses a.reaches.now a.levels.now.starts r) (sym same)
    (tree-refused req a.room why
    (refused-request a.profile.now a.asked a.include.now a.exclude.now c.check_request.result c.check_request.ensures why c.in_err-q.was))

pub returns : goal.returns
returns c =
    let a = c.args in
    let lists = lists_of a.include.now a.exclude.now in
    let r = c.check_request.result in
    let is = c.check_request.ensures in
    let q = c.in_ok-q.q in
    let was = c.in_ok-q.was in
    let l = c.solve_query.new in
    subst (λ (o : Outcome TreeEntry). TreeResultIs o a.room l.levels.addresses l.reaches l.levels.starts c.solve_query.result)
    (sym
    (tree-accepted (request (goal.at.returns c).Start) a.room (query_stops a.include.now q) (round_for (layout_in a.profile.now) a.profile.now lists q)
    (search_for (layout_in a.profile.now) a.profile.now lists (in_round (round_for (layout_in a.profile.now) a.profile.now lists q) q))
    (accepted-request a.profile.now a.asked a.include.now a.exclude.now r is q was)
    (round-request a.profile.now a.asked a.include.now a.exclude.now r is q was)
    (search-request a.profile.now a.asked a.include.now a.exclude.now r is q was)))
    c.solve_query.ensures
