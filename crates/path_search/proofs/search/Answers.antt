-- `path_search::search` meets its contract: the tree is worked out in the round that applies, the bound asked of the source's number, and what is found above the given
-- list written.
use mathlib.Core.Path.{◌≡◌, refl, sym, ap, subst, ◌∙◌}
use Prim.Native.Nat.{ℕ, suc, ◌<◌}
use lib.ListN.{get_or}
use Rattle.laws.specs.Lists.{lists_of}
use Rattle.profile_records.specs.Layout.{layout_of}
use Rattle.request.specs.Query.{search_for, Ready}
use Rattle.tree_reaches.specs.Reaches.{code_at}
use Rattle.path_answers.specs.declared.SearchResult.{SearchResult}
use Rattle.path_answers.specs.SearchResult.{ResultIs}
use Rattle.tree_rounds.proofs.Source.{source-number}
use Rattle.path_search.proofs.Searching.{worked-for, stands, some_way, sought_none, sought, none_above, result_none, ready_settled, sought-for}
use Rattle.path_search.proofs.search.Goals as goal
use Rattle.path_search.proofs.search.Goals.{After-settle-settled}

-- the query in its round is ready
ready : (c : After-settle-settled) → Ready (layout_of c.args.layout) c.args.s.now (lists_of c.args.include.now c.args.exclude.now) c.settle-settled.result.query
ready c =
    let a = c.args in
    let lists = lists_of a.include.now a.exclude.now in
    ready_settled (layout_of a.layout) a.s.now lists a.q _ _ _ _ _ _ c.settle-settled.ensures c.requires.sound_layout.1

-- the profile is bytes
bytes : (c : After-settle-settled) (i : ℕ) → get_or c.args.s.now i 0 < 256
bytes c i = (c.type_inv.s i).fits

-- the source's number
here_is
    : (c : After-settle-settled)
    → get_or c.settle-settled.new.reaches 0 0 ≡ code_at (search_for (layout_of c.args.layout) c.args.s.now (lists_of c.args.include.now c.args.exclude.now) c.settle-settled.result.query) 0 c.settle-settled.result.query.source.0
here_is c =
    let a = c.args in
    let lists = lists_of a.include.now a.exclude.now in
    source-number (layout_of a.layout) a.s.now lists c.settle-settled.result.query c.requires.sound_layout.0.cheap (ready c) _ c.settle-settled.ensures.worked.codes_are

pub returns-then-not-admissible : goal.returns-then-not-admissible
returns-then-not-admissible c =
    let there = (goal.at.returns-then-not-admissible c).After-settle-settled in
    let a = c.args in
    let lists = lists_of a.include.now a.exclude.now in
    sought-for (layout_of a.layout) a.s.now lists a.q _ _ _ _ _ _ c.settle-settled.ensures a.given.now _ (ap (λ (r : SearchResult). r.round) c.nothing_in.ensures)
    (result_none _ _ _ _ _ c.nothing_in.ensures
    (sought_none (layout_of a.layout) a.s.now lists c.settle-settled.result.query c.requires.sound_layout.0.cheap (bytes there) (ready there) _ (here_is there) a.given.now
    (sym c.admissible.ensures ∙ c.if-not-admissible.true)))

pub above-requires-clause-ways : goal.above-requires-clause-ways
above-requires-clause-ways c =
    let there = (goal.at.above-requires-clause-ways c).After-settle-settled in
    let a = c.args in
    let lists = lists_of a.include.now a.exclude.now in
    let kept = sym c.admissible.ensures ∙ c.if-not-admissible.false in
    let way = some_way (layout_of a.layout) a.s.now lists c.settle-settled.result.query c.requires.sound_layout.0.cheap (bytes there) (ready there) _ (here_is there) a.given.now kept in
    record {
      search = search_for (layout_of a.layout) a.s.now lists c.settle-settled.result.query;
      worked = worked-for lists _ _ c.requires.sound_layout.0 (bytes there) (ready there) c.settle-settled.ensures.worked;
      stands = stands (layout_of a.layout) a.s.now lists c.settle-settled.result.query c.requires.sound_layout.0.cheap (bytes there) (ready there) _ (here_is there) way;
    }

pub returns-then-not-above : goal.returns-then-not-above
returns-then-not-above c =
    let there = (goal.at.returns-then-not-above c).After-settle-settled in
    let a = c.args in
    let lists = lists_of a.include.now a.exclude.now in
    let kept = sym c.admissible.ensures ∙ c.if-not-admissible.false in
    let way = some_way (layout_of a.layout) a.s.now lists c.settle-settled.result.query c.requires.sound_layout.0.cheap (bytes there) (ready there) _ (here_is there) a.given.now kept in
    sought-for (layout_of a.layout) a.s.now lists a.q _ _ _ _ _ _ c.settle-settled.ensures a.given.now _ (ap (λ (r : SearchResult). r.round) c.nothing_in-then-not-above.ensures)
    (result_none _ _ _ _ _ c.nothing_in-then-not-above.ensures
    (none_above (layout_of a.layout) a.s.now lists c.settle-settled.result.query c.requires.sound_layout.0.cheap (bytes there) (ready there) _ (here_is there) a.given.now kept _ _ _
    (c.above.ensures (search_for (layout_of a.layout) a.s.now lists c.settle-settled.result.query) (worked-for lists _ _ c.requires.sound_layout.0 (bytes there) (ready there) c.settle-settled.ensures.worked)
    (stands (layout_of a.layout) a.s.now lists c.settle-settled.result.query c.requires.sound_layout.0.cheap (bytes there) (ready there) _ (here_is there) way)) c.if-not-above.true))

pub returns : goal.returns
returns c =
    let there = (goal.at.returns c).After-settle-settled in
    let a = c.args in
    let lists = lists_of a.include.now a.exclude.now in
    let kept = sym c.admissible.ensures ∙ c.if-not-admissible.false in
    let way = some_way (layout_of a.layout) a.s.now lists c.settle-settled.result.query c.requires.sound_layout.0.cheap (bytes there) (ready there) _ (here_is there) a.given.now kept in
    sought-for (layout_of a.layout) a.s.now lists a.q _ _ _ _ _ _ c.settle-settled.ensures a.given.now _ (ap (λ (r : SearchResult). r.round) c.found_in.ensures)
    (subst (ResultIs (search_for (layout_of a.layout) a.s.now lists c.settle-settled.result.query) a.given.now (suc c.settle-settled.result.query.count)) (sym c.found_in.ensures)
    (sought (layout_of a.layout) a.s.now lists c.settle-settled.result.query c.requires.sound_layout.0.cheap (bytes there) (ready there) _ (here_is there) a.given.now kept _ _ _ refl
    (c.above.ensures (search_for (layout_of a.layout) a.s.now lists c.settle-settled.result.query) (worked-for lists _ _ c.requires.sound_layout.0 (bytes there) (ready there) c.settle-settled.ensures.worked)
    (stands (layout_of a.layout) a.s.now lists c.settle-settled.result.query c.requires.sound_layout.0.cheap (bytes there) (ready there) _ (here_is there) way)) c.if-not-above.false))
