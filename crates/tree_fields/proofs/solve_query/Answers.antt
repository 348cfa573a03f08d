-- `tree_fields::solve_query` meets its contract: the tree is worked out for the layout that the profile says, in the round that applies, and its entries are those of `tree`.
use mathlib.Core.Path.{refl, sym, subst}
use Prim.Native.Nat.{◌≤◌}
use native.Mathlib.Omega.{arith}
use Rattle.model.specs.Profile.{Layout, layout_in}
use Rattle.laws.specs.Lists.{lists_of}
use Rattle.profile_records.specs.Layout.{SoundLayout}
use Rattle.profile_records.proofs.Layouts.{layout-sound}
use Rattle.request.specs.Query.{Ready}
use Rattle.tree_rounds.specs.ChosenRound.{ChosenRoundIs}
use Rattle.tree_fields.specs.TreeResult.{tree_for, TreeResultIs}
use Rattle.tree_fields.proofs.Outcomes.{places-few, count_small, tally-small, told-right}
use Rattle.tree_fields.proofs.solve_query.Goals as goal
use Rattle.tree_fields.proofs.solve_query.Goals.{After-settle-settled}

pub settle-settled-requires : goal.settle-settled-requires
settle-settled-requires c =
    let a = c.args in
    let lists = lists_of a.include.now a.exclude.now in record {
      sound_layout = subst (λ (L : Layout). SoundLayout L × Ready L a.profile.now lists a.q) (sym c.layout_in-layout.ensures)
          (layout-sound a.profile.now, c.requires.ready);
      room = c.requires.addresses_len;
    }

-- what was settled, for the layout that the profile says
settled
    : (c : After-settle-settled)
    → ChosenRoundIs (layout_in c.args.profile.now) c.args.profile.now (lists_of c.args.include.now c.args.exclude.now) c.args.q
    c.settle-settled.new.levels.addresses c.settle-settled.new.reaches c.settle-settled.new.levels.starts c.settle-settled.new.levels.firsts c.settle-settled.new.levels.lasts
    c.settle-settled.result
settled c =
    let a = c.args in
    let lists = lists_of a.include.now a.exclude.now in
    let l = c.settle-settled.new in
    subst (λ (L : Layout). ChosenRoundIs L a.profile.now lists a.q l.levels.addresses l.reaches l.levels.starts l.levels.firsts l.levels.lasts c.settle-settled.result)
    c.layout_in-layout.ensures
    c.settle-settled.ensures

-- there are at most 16 places
few : (c : After-settle-settled) → c.settle-settled.result.query.count ≤ 16
few c =
    let a = c.args in
    let lists = lists_of a.include.now a.exclude.now in
    let l = c.settle-settled.new in
    places-few a.profile.now lists a.q a.room c.requires.ready l.levels.addresses l.reaches l.levels.starts l.levels.firsts l.levels.lasts c.settle-settled.result (settled c)

pub offset_bounds-levels-places : goal.offset_bounds-levels-places
offset_bounds-levels-places c = omega (arith, few (goal.at.offset_bounds-levels-places c).After-settle-settled)

pub bounds-levels-places : goal.bounds-levels-places
bounds-levels-places c = omega (arith, few (goal.at.bounds-levels-places c).After-settle-settled)

pub told-requires : goal.told-requires
told-requires c =
    let a = c.args in
    let lists = lists_of a.include.now a.exclude.now in
    let l = c.settle-settled.new in (
      count_small a.profile.now lists a.q a.room c.requires.ready l.levels.addresses l.reaches l.levels.starts l.levels.firsts l.levels.lasts c.settle-settled.result (settled (goal.at.told-requires c).After-settle-settled),
      tally-small a.profile.now lists a.q a.room c.requires.ready l.levels.addresses l.reaches l.levels.starts l.levels.firsts l.levels.lasts c.settle-settled.result (settled (goal.at.told-requires c).After-settle-settled),
    )

pub returns : goal.returns
returns c =
    let a = c.args in
    let lists = lists_of a.include.now a.exclude.now in
    let l = c.settle-settled.new in
    subst (TreeResultIs (tree_for a.profile.now lists a.q a.room) a.room l.levels.addresses l.reaches l.levels.starts) (sym c.told.ensures)
    (told-right a.profile.now lists a.q a.room c.requires.ready l.levels.addresses l.reaches l.levels.starts l.levels.firsts l.levels.lasts c.settle-settled.result (settled (goal.at.returns c).After-settle-settled))
