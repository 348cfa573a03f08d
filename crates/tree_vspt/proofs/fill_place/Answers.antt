-- `tree_vspt::fill_place` meets its contract: the leg made of the query's fields stands for the place, and its step gives the place's numbers.
use Rattle.laws.specs.Lists.{lists_of}
use Rattle.profile_records.specs.Layout.{layout_of}
use Rattle.tree_vspt.proofs.Filling.{in_order, next_place, placed}
use Rattle.tree_vspt.proofs.fill_place.Goals as goal

pub fill_level-requires : goal.fill_level-requires
fill_level-requires c =
    let a = c.args.laid.now in
    let lists = lists_of a.include.now a.exclude.now in
    let leg = c.leg_at-leg in
    let for = leg.ensures a.levels.now.addresses c.requires.laid_out_for.0.examined c.requires.laid_out_for.0.laid in record {
      right_profile = record { layout = c.requires.sound_layout.0; passed = c.requires.sound_layout.1.profile-right };
      exclude_value = (c.requires.sound_layout.1.exclude-right, c.requires.sound_layout.1.bandwidth-right, for.stretch);
      pair_range = for.range;
      start_le_next = (
        in_order (layout_of a.layout) a.profile.now lists a.query c.requires.sound_layout.0.cheap c.requires.sound_layout.1 a.levels.now.addresses a.levels.now.starts a.levels.now.firsts a.levels.now.lasts c.requires.laid_out_for.0
            c.args.i c.requires.sound_layout.2 c.args.reaches.now c.requires.laid_out_for.1 c.requires.holds leg.result for.is,
        next_place (layout_of a.layout) a.profile.now lists a.query c.requires.sound_layout.0.cheap c.requires.sound_layout.1 a.levels.now.addresses a.levels.now.starts a.levels.now.firsts a.levels.now.lasts c.requires.laid_out_for.0
            c.args.i c.requires.sound_layout.2 c.args.reaches.now c.requires.laid_out_for.1 c.requires.holds leg.result for.is,
      );
    }

pub returns : goal.returns
returns c =
    let a = c.args.laid.now in
    let lists = lists_of a.include.now a.exclude.now in
    let leg = c.leg_at-leg in
    let for = leg.ensures a.levels.now.addresses c.requires.laid_out_for.0.examined c.requires.laid_out_for.0.laid in
    placed (layout_of a.layout) a.profile.now lists a.query c.requires.sound_layout.0.cheap c.requires.sound_layout.1 a.levels.now.addresses a.levels.now.starts a.levels.now.firsts a.levels.now.lasts c.requires.laid_out_for.0
    c.args.i c.requires.sound_layout.2 c.args.reaches.now c.requires.laid_out_for.1 c.requires.holds leg.result for.is _ c.fill_level.ensures
