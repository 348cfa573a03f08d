-- `tree_vspt::fill_before` meets its contract, by recursion on how many places are left: with none all stands, else one place is filled from what stands behind it.
use mathlib.Core.Path.{◌≡◌, sym, ap, subst, ◌∙◌}
use Prim.Native.Nat.{ℕ, suc, ◌-◌}
use native.Mathlib.Omega.{arith}
use Rattle.model.specs.Request.{Search}
use Rattle.laws.specs.Lists.{lists_of}
use Rattle.profile_records.specs.Layout.{layout_of}
use Rattle.request.specs.Query.{search_for}
use Rattle.tree_vspt.specs.Tree.{HoldsFrom, filled_from}
use Rattle.tree_vspt.proofs.Filled.{filled_none, holds-whole}
use Rattle.tree_vspt.proofs.Filling.{placed-long, stands_next, stands_more, filled_from_lem}
use Rattle.tree_vspt.proofs.+fill_before.Goals as goal

pub returns-then-n-eq0 : goal.returns-then-n-eq0
returns-then-n-eq0 t c =
    let a = c.args.laid.now in
    let lists = lists_of a.include.now a.exclude.now in
    let none : c.args.n ≡ 0 = c.if-n-eq0.true in
    let S : Search = search_for (layout_of a.layout) a.profile.now lists a.query in (
      filled_none S 0 c.args.reaches.now ∙ ap (λ (n : ℕ). filled_from S 0 n c.args.reaches.now) (sym none),
      holds-whole S c.args.reaches.now (subst (λ (n : ℕ). HoldsFrom S n c.args.reaches.now) none c.requires.holds_from),
    )

pub fill_place-requires-clause-holds : goal.fill_place-requires-clause-holds
fill_place-requires-clause-holds t c =
    let a = c.args.laid.now in
    let lists = lists_of a.include.now a.exclude.now in
    let pre = c.requires in
    let some : suc (c.args.n - 1) ≡ c.args.n = omega arith in
    stands_next (layout_of a.layout) a.profile.now lists a.query pre.sound_layout.0.cheap pre.sound_layout.1 a.levels.now.addresses a.levels.now.starts a.levels.now.firsts a.levels.now.lasts pre.laid_out_for.0
    c.args.n (c.args.n - 1) some pre.sound_layout.2 c.args.reaches.now pre.laid_out_for.1 pre.holds_from

pub fill_before-requires : goal.fill_before-requires
fill_before-requires t c =
    let a = c.args.laid.now in
    let lists = lists_of a.include.now a.exclude.now in
    let pre = c.requires in
    let some : suc (c.args.n - 1) ≡ c.args.n = omega arith in
    let w = c.fill_place.ensures in (
      omega (arith, c.decreases),
      (
        (pre.sound_layout.0, pre.sound_layout.1, omega (arith, pre.sound_layout.2)),
        (
          (
            pre.laid_out_for.0,
            placed-long (layout_of a.layout) a.profile.now lists a.query pre.sound_layout.0.cheap pre.sound_layout.1 a.levels.now.addresses a.levels.now.starts a.levels.now.firsts a.levels.now.lasts pre.laid_out_for.0
                (c.args.n - 1) (omega (arith, pre.sound_layout.2)) c.args.reaches.now _ pre.laid_out_for.1 w
                ∙ pre.laid_out_for.1,
          ),
          stands_more (layout_of a.layout) a.profile.now lists a.query pre.sound_layout.0.cheap pre.sound_layout.1 a.levels.now.addresses a.levels.now.starts a.levels.now.firsts a.levels.now.lasts pre.laid_out_for.0
              c.args.n (c.args.n - 1) some pre.sound_layout.2 c.args.reaches.now pre.laid_out_for.1 pre.holds_from _ w,
        ),
      ),
    )

pub returns : goal.returns
returns t c =
    let a = c.args.laid.now in
    let lists = lists_of a.include.now a.exclude.now in
    let pre = c.requires in
    let some : suc (c.args.n - 1) ≡ c.args.n = omega arith in (
      filled_from_lem (layout_of a.layout) a.profile.now lists a.query pre.sound_layout.0.cheap pre.sound_layout.1 a.levels.now.addresses a.levels.now.starts a.levels.now.firsts a.levels.now.lasts pre.laid_out_for.0
          c.args.n (c.args.n - 1) some pre.sound_layout.2 c.args.reaches.now pre.laid_out_for.1 pre.holds_from _ _ c.fill_place.ensures c.fill_before.ensures.0,
      c.fill_before.ensures.1,
    )
