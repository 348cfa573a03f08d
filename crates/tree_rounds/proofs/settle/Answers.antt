-- `tree_rounds::settle` meets its contract: what is laid out serves both rounds; the source's number in the first round's tree decides whether the second applies.
use mathlib.Core.Path.{refl, ap, ◌∙◌}
use Prim.Native.Nat.{ℕ}
use native.Mathlib.Omega.{arith}
use Rattle.model.specs.declared.Round.TheVariants.{First, Second}
use Rattle.model.specs.Rounds.{round_if}
use Rattle.laws.specs.Lists.{lists_of}
use Rattle.laws.proofs.BigEndian.{number_bound}
use Rattle.profile_records.specs.Layout.{layout_of}
use Rattle.tree_vspt.proofs.Sequences.{several}
use Rattle.tree_rounds.proofs.AllExrs.{all_stretch}
use Rattle.tree_rounds.proofs.Settling.{ready_for, laid_for, settled, examined_most, round_is}
use Rattle.tree_rounds.proofs.settle.Goals as goal

pub lay_out-examined-requires : goal.lay_out-examined-requires
lay_out-examined-requires c =
    let a = c.args in
    let lists = lists_of a.include.now a.exclude.now in
    record {
      right_profile = record { layout = c.requires.sound_layout.0; passed = c.requires.sound_layout.1.profile-right };
      several = (several (layout_of a.layout) a.s.now lists a.q c.requires.sound_layout.1, c.requires.room.0);
    }

pub fill_tree-requires : goal.fill_tree-requires
fill_tree-requires c =
    let a = c.args in
    let lists = lists_of a.include.now a.exclude.now in
    let lay = c.lay_out-examined in
    let p = c.in_round-first in record {
      sound_layout = (c.requires.sound_layout.0, ready_for (layout_of a.layout) a.s.now lists a.q c.requires.sound_layout.0.cheap c.requires.sound_layout.1 _ _ _ _ _ lay.ensures First p.result p.ensures);
      laid_out_for = (laid_for (layout_of a.layout) a.s.now lists a.q c.requires.sound_layout.0.cheap c.requires.sound_layout.1 _ _ _ _ _ lay.ensures First p.result p.ensures, c.requires.room.1);
    }

pub needs_second-requires : goal.needs_second-requires
needs_second-requires c =
    let ready = c.requires.sound_layout.1 in
    record {
      exclude_value = (ready.exclude-right, ready.bound-right);
      le_count = (ready.some_domain_lem, ready.most, ready.stops-long, all_stretch _ _ _ _ ready, ready.include-short);
    }

pub returns-then-not-needs_second : goal.returns-then-not-needs_second
returns-then-not-needs_second c =
    let a = c.args in
    let lists = lists_of a.include.now a.exclude.now in
    let lay = c.lay_out-examined in
    let p = c.in_round-first in
    let filled = c.fill_tree.ensures.0 in
    let no = c.if-not-needs_second.true in
    settled (layout_of a.layout) a.s.now lists a.q c.requires.sound_layout.0.cheap c.requires.sound_layout.1 _ _ _ _ _ lay.ensures First p.result p.ensures
    (round_is (layout_of a.layout) a.s.now lists a.q c.requires.sound_layout.0.cheap c.requires.sound_layout.1 _ _ _ _ _ lay.ensures p.result p.ensures _ filled _ c.needs_second.ensures ∙ ap round_if no) _ filled _ refl

pub fill_tree-requires-2 : goal.fill_tree-requires-2
fill_tree-requires-2 c =
    let a = c.args in
    let lists = lists_of a.include.now a.exclude.now in
    let lay = c.lay_out-examined in
    let p = c.in_round-second in record {
      sound_layout = (c.requires.sound_layout.0, ready_for (layout_of a.layout) a.s.now lists a.q c.requires.sound_layout.0.cheap c.requires.sound_layout.1 _ _ _ _ _ lay.ensures Second p.result p.ensures);
      laid_out_for = (laid_for (layout_of a.layout) a.s.now lists a.q c.requires.sound_layout.0.cheap c.requires.sound_layout.1 _ _ _ _ _ lay.ensures Second p.result p.ensures, c.fill_tree.ensures.1);
    }

pub overflow_add-result : goal.overflow_add-result
overflow_add-result c =
    let a = c.args in
    let lists = lists_of a.include.now a.exclude.now in
    let lay = c.lay_out-examined in
    let most = examined_most (layout_of a.layout) a.s.now lists a.q c.requires.sound_layout.0.cheap c.requires.sound_layout.1 _ _ _ _ _ lay.ensures in
    omega (arith, number_bound 2 a.s.now 8 (λ (k : ℕ). (c.type_inv.s k).fits))

pub returns : goal.returns
returns c =
    let a = c.args in
    let lists = lists_of a.include.now a.exclude.now in
    let lay = c.lay_out-examined in
    let p = c.in_round-first in
    let p2 = c.in_round-second in
    let yes = c.if-not-needs_second.false in
    settled (layout_of a.layout) a.s.now lists a.q c.requires.sound_layout.0.cheap c.requires.sound_layout.1 _ _ _ _ _ lay.ensures Second p2.result p2.ensures
    (round_is (layout_of a.layout) a.s.now lists a.q c.requires.sound_layout.0.cheap c.requires.sound_layout.1 _ _ _ _ _ lay.ensures p.result p.ensures _ c.fill_tree.ensures.0 _ c.needs_second.ensures ∙ ap round_if yes) _ c.fill_tree-2.ensures.0 _ refl
