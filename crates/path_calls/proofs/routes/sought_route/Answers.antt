-- `path_calls::routes::sought_route` meets its contract: the search is that of the layout that the profile says.
use mathlib.Core.Path.{sym, subst}
use Rattle.std.specs.Prelude.{Ok}
use native.Mathlib.Omega.{arith}
use Rattle.model.specs.declared.Round.{Round}
use Rattle.model.specs.Profile.{Layout, layout_in}
use Rattle.model.specs.Path.{shortest_paths}
use Rattle.model.specs.Calls.{first_of, greater_than}
use Rattle.laws.specs.Lists.{lists_of}
use Rattle.path_answers.specs.PathReply.{none_number, ReplyIs}
use Rattle.profile_records.specs.Layout.{SoundLayout}
use Rattle.profile_records.proofs.Layouts.{layout-sound}
use Rattle.request.specs.Query.{search_for, in_round, round_for, Ready}
use Rattle.path_search.specs.Searched.{ResultFor}
use Rattle.path_calls.proofs.routes.sought_route.Goals as goal

pub search-sought-requires : goal.search-sought-requires
search-sought-requires c =
    let start = c in
    let a = c.args in
    let lists = lists_of a.include.now a.exclude.now in
    let e = sym c.layout_in-layout.ensures in
    record {
      sound_layout = (subst SoundLayout e (layout-sound a.profile.now), subst (λ (L : Layout). Ready L a.profile.now lists a.q) e c.requires.0);
      given_len = c.requires.1;
    }

pub answered-requires : goal.answered-requires
answered-requires c =
    let start = c in
    omega (arith, c.requires.0.most)

pub returns : goal.returns
returns c =
    let a = c.args in
    let lists = lists_of a.include.now a.exclude.now in
    let x = c.search-sought in
    let for = subst (λ (L : Layout). ResultFor L a.profile.now lists a.q a.given.now x.result) c.layout_in-layout.ensures x.ensures in
    let S = search_for (layout_in a.profile.now) a.profile.now lists (in_round (round_for (layout_in a.profile.now) a.profile.now lists a.q) a.q) in
    λ room fits.
    subst (λ (y : Round). ReplyIs (first_of y (none_number a.again) (greater_than a.given.now (shortest_paths S))) room (Ok c.answered.result)) for.round_is
    (c.answered.ensures S a.given.now room for.is fits)
