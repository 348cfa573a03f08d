-- `tree_vspt::fill_tree` meets its contract: what is laid out is filled from the last place to the second, then the source's, and all of it is the tree's.
use mathlib.Core.Path.{◌≡◌, ◌∙◌}
use Prim.Native.Nat.{suc, ◌+◌, ◌-◌}
use native.Mathlib.Omega.{arith}
use Rattle.laws.specs.Lists.{lists_of}
use Rattle.profile_records.specs.Layout.{layout_of}
use Rattle.tree_vspt.proofs.Filling.{mid_long, written_stands, before-long}
use Rattle.tree_vspt.proofs.fill_tree.Goals as goal

pub fill_before-requires : goal.fill_before-requires
fill_before-requires c =
    let a = c.args.laid.now in
    let lists = lists_of a.include.now a.exclude.now in
    let some = c.requires.sound_layout.1.some_domain_lem in
    let whole : 0 + suc (a.query.count - 1) ≡ a.query.count = omega arith in
    let w = c.fill_from.ensures in record {
      sound_layout = (c.requires.sound_layout.0, c.requires.sound_layout.1, some);
      laid_out_for = (c.requires.laid_out_for.0, mid_long (layout_of a.layout) a.profile.now lists a.query c.requires.sound_layout.0.cheap c.requires.sound_layout.1 _ _ _ _ c.requires.laid_out_for.0 0 (a.query.count - 1) whole c.args.reaches.now _ c.requires.laid_out_for.1 w);
      holds_from = written_stands (layout_of a.layout) a.profile.now lists a.query c.requires.sound_layout.0.cheap c.requires.sound_layout.1 _ _ _ _ c.requires.laid_out_for.0 0 (a.query.count - 1) whole c.args.reaches.now _ c.requires.laid_out_for.1 w;
    }

pub returns : goal.returns
returns c =
    let a = c.args.laid.now in
    let lists = lists_of a.include.now a.exclude.now in
    let some = c.requires.sound_layout.1.some_domain_lem in
    let whole : 0 + suc (a.query.count - 1) ≡ a.query.count = omega arith in
    let behind = c.fill_from.ensures in
    let mid = mid_long (layout_of a.layout) a.profile.now lists a.query c.requires.sound_layout.0.cheap c.requires.sound_layout.1 _ _ _ _ c.requires.laid_out_for.0 0 (a.query.count - 1) whole c.args.reaches.now _ c.requires.laid_out_for.1 behind in (
      c.fill_before.ensures.1,
      before-long (layout_of a.layout) a.profile.now lists a.query c.requires.sound_layout.0.cheap c.requires.sound_layout.1 _ _ _ _ c.requires.laid_out_for.0 1 some _ _ mid c.fill_before.ensures.0 ∙ mid,
    )
