-- `tree_vspt::fill_from` meets its contract, by recursion on how many domains are left: the last place is the destination's, and each other is one step before those written.
use mathlib.Core.Path.{◌≡◌, ap, ◌∙◌}
use Prim.Native.Nat.{ℕ, suc, ◌+◌, ◌-◌, ◌<◌}
use native.Mathlib.Numerals.{add-one}
use native.Mathlib.Omega.{arith}
use lib.ListN.{get_or}
use Rattle.laws.specs.Lists.{lists_of}
use Rattle.profile_records.specs.Layout.{layout_of}
use Rattle.request.specs.Query.{search_for}
use Rattle.tree_vspt.specs.Tree.{filled_from}
use Rattle.tree_vspt.proofs.Filling.{end-inside, filled-last, next_codes_lem, filled_step}
use Rattle.tree_vspt.proofs.+fill_from.Goals as goal
use Rattle.tree_vspt.proofs.+fill_from.Goals.{After-arrival, After-fill_from}

-- the last place's cell lies in the list
inside : (t : ℕ) (c : After-arrival t) → get_or c.args.laid.now.levels.now.starts c.args.i 0 < 242
inside t c =
    let a = c.args.laid.now in
    let lists = lists_of a.include.now a.exclude.now in
    let pre = c.requires in
    end-inside (layout_of a.layout) a.profile.now lists a.query pre.sound_layout.0.cheap pre.sound_layout.1 a.levels.now.addresses a.levels.now.starts a.levels.now.firsts a.levels.now.lasts pre.laid_out_for.0
    c.args.i (omega (arith, pre.sound_layout.2))

pub offset_bounds-reaches-at : goal.offset_bounds-reaches-at
offset_bounds-reaches-at t c = let h = inside t (goal.at.offset_bounds-reaches-at t c).After-arrival in omega arith

pub bounds-reaches-at : goal.bounds-reaches-at
bounds-reaches-at t c = let h = inside t (goal.at.bounds-reaches-at t c).After-arrival in omega (arith, c.requires.laid_out_for.1)

pub returns-then-left-eq0 : goal.returns-then-left-eq0
returns-then-left-eq0 t c =
    let a = c.args.laid.now in
    let lists = lists_of a.include.now a.exclude.now in
    let pre = c.requires in
    let L = layout_of a.layout in
    let none : 0 ≡ c.args.left = omega arith in
    filled-last L a.profile.now lists a.query pre.sound_layout.0.cheap pre.sound_layout.1 a.levels.now.addresses a.levels.now.starts a.levels.now.firsts a.levels.now.lasts pre.laid_out_for.0
    c.args.i c.args.reaches.now c.arrival.result (omega (arith, pre.sound_layout.2)) pre.laid_out_for.1 c.arrival.ensures
    ∙ ap (λ (n : ℕ). filled_from (search_for L a.profile.now lists a.query) c.args.i (suc n) c.args.reaches.now) none

-- what the call before has written: the places behind this one
written
    : (t : ℕ) (c : After-fill_from t)
    → c.fill_from.new.reaches
    ≡ filled_from (search_for (layout_of c.args.laid.now.layout) c.args.laid.now.profile.now (lists_of c.args.laid.now.include.now c.args.laid.now.exclude.now) c.args.laid.now.query) (suc c.args.i) (suc (c.args.left - 1)) c.args.reaches.now
written t c =
    let a = c.args.laid.now in
    let lists = lists_of a.include.now a.exclude.now in
    let L = layout_of a.layout in
    c.fill_from.ensures
    ∙ ap (λ (n : ℕ). filled_from (search_for L a.profile.now lists a.query) n (suc (c.args.left - 1)) c.args.reaches.now) (add-one c.args.i)

pub fill_place-requires-clause-holds : goal.fill_place-requires-clause-holds
fill_place-requires-clause-holds t c =
    let a = c.args.laid.now in
    let lists = lists_of a.include.now a.exclude.now in
    let pre = c.requires in
    let count : c.args.i + suc (c.args.left - 1) ≡ a.query.count = omega (arith, pre.sound_layout.2, c.if-left-eq0.false) in
    let w = written t (goal.at.fill_place-requires-clause-holds t c).After-fill_from in
    next_codes_lem (layout_of a.layout) a.profile.now lists a.query pre.sound_layout.0.cheap pre.sound_layout.1 a.levels.now.addresses a.levels.now.starts a.levels.now.firsts a.levels.now.lasts pre.laid_out_for.0
    c.args.i (c.args.left - 1) count c.args.reaches.now _ pre.laid_out_for.1 w

pub returns : goal.returns
returns t c =
    let a = c.args.laid.now in
    let lists = lists_of a.include.now a.exclude.now in
    let pre = c.requires in
    let count : c.args.i + suc (c.args.left - 1) ≡ a.query.count = omega (arith, pre.sound_layout.2, c.if-left-eq0.false) in
    let w = written t (goal.at.returns t c).After-fill_from in
    let left : suc (suc (c.args.left - 1)) ≡ suc c.args.left = omega arith in
    filled_step (layout_of a.layout) a.profile.now lists a.query pre.sound_layout.0.cheap pre.sound_layout.1 a.levels.now.addresses a.levels.now.starts a.levels.now.firsts a.levels.now.lasts pre.laid_out_for.0
    c.args.i (c.args.left - 1) count c.args.reaches.now _ pre.laid_out_for.1 w _ c.fill_place.ensures
    ∙ ap (λ (n : ℕ). filled_from (search_for (layout_of a.layout) a.profile.now lists a.query) c.args.i n c.args.reaches.now) left
