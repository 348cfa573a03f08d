-- `tree_levels::lay_out` meets its contract. For every search over these domains a turn lays out one leg more (`Filling`), and the last leg and the destination end it.
use Prim.Native.Nat.{ℕ, ◌+◌, ◌-◌, ◌<◌}
use native.Mathlib.Omega.{arith}
use mathlib.Core.Path.{◌≡◌, subst, ◌∙◌}
use native.Mathlib.Numerals.{add-one}
use lib.ListN.{get_or, set, length-set}
use lib.Seq.{get_or-set_same}
use Rattle.model.specs.Profile.{hop_count}
use Rattle.laws.proofs.BigEndian.{number_bound}
use Rattle.profile_records.specs.Layout.{layout_of}
use Rattle.tree_levels.specs.Entries.{heads_of}
use Rattle.tree_levels.specs.Levels.{Covers}
use Rattle.tree_levels.proofs.Legs.{count-is}
use Rattle.tree_levels.proofs.Filling.{Filled, filled-start, next-filled, last-filled, room-more, few-heads}
use Rattle.tree_levels.proofs.lay_out.Goals as goal
use Rattle.tree_levels.proofs.lay_out.Goals.{After-shared_slice_known-1}

few-hops : (c : After-shared_slice_known-1) → hop_count c.args.s.now < 65536
few-hops c = number_bound 2 c.args.s.now 8 (λ (k : ℕ). (c.type_inv.s k).fits)

pub loop-i-init : goal.loop-i-init
loop-i-init c =
    let a = c.args in
    let several = c.requires.several.0 in
    let room = c.requires.several.1 in (
      omega arith,
      omega arith,
      record {
        for_addresses_lem = simp length-set room.for_addresses_lem;
        for_starts = simp length-set room.for_starts;
        for_firsts = room.for_firsts;
        for_lasts = room.for_lasts;
      },
      λ S covers.
          let long = count-is S (layout_of a.layout) a.s.now a.stops.now a.count _ _ several covers in
          let source : S.source ≡ a.source.0 = covers.source_is ∙ get_or-set_same a.levels.now.addresses 0 a.source.0 0 (omega (arith, room.for_addresses_lem)) in
          rw (← source)
          (filled-start S (layout_of a.layout) a.s.now a.levels.now.addresses a.levels.now.starts a.levels.now.firsts a.levels.now.lasts
          (omega (arith, several.some)) (omega (arith, room.for_addresses_lem)) (omega (arith, room.for_starts))),
    )

pub note_leg-leg-requires : goal.note_leg-leg-requires
note_leg-leg-requires c =
    record {
      right_profile = c.requires.right_profile;
      i_bound = omega arith;
    }

pub tallied-examined-requires : goal.tallied-examined-requires
tallied-examined-requires c =
    let range = c.note_leg-leg.ensures.range in
    (omega arith, range.order, omega (arith, few-hops (goal.at.tallied-examined-requires c).After-shared_slice_known-1, range.within))

pub collect-end-requires : goal.collect-end-requires
collect-end-requires c =
    let a = c.args in
    let l = c.loop-i in
    let leg = c.note_leg-leg in
    let range = leg.ensures.range in
    let few =
    few-heads (layout_of a.layout) a.s.now a.stops.now a.count l.i (l.i + 1) leg.result.first leg.result.last c.requires.right_profile.passed c.requires.several.0 (add-one l.i)
    (omega arith) range in
    record {
      right_profile = c.requires.right_profile;
      first_le_last = (range.order, range.within, few);
      from_bound = (omega arith, l.invariant.2.for_addresses_lem);
    }

pub loop-i-preserved : goal.loop-i-preserved
loop-i-preserved c =
    let a = c.args in
    let l = c.loop-i in
    let leg = c.note_leg-leg in
    let range = leg.ensures.range in
    let L = layout_of a.layout in
    let file = a.s.now in
    let few =
    few-heads L file a.stops.now a.count l.i (l.i + 1) leg.result.first leg.result.last c.requires.right_profile.passed c.requires.several.0 (add-one l.i) (omega arith) range in (
      omega (arith, c.collect-end.ensures.value),
      omega (arith, few-hops (goal.at.loop-i-preserved c).After-shared_slice_known-1, range.within, c.tallied-examined.ensures),
      room-more L file l.levels.addresses l.levels.starts l.levels.firsts l.levels.lasts l.end _ _ l.i (l.i + 2) _ _ leg.result.first leg.result.last
          (heads_of L file leg.result.first leg.result.last) _ c.collect-end.result l.invariant.2 leg.ensures (omega arith) c.collect-end.ensures.addresses_after,
      λ S covers.
          next-filled S L file a.stops.now a.count _ _ c.requires.several.0 covers l.levels.addresses l.levels.starts l.levels.firsts l.levels.lasts l.end l.examined l.i (l.i + 1)
          (l.i + 2) _ _ leg.result.first leg.result.last _ c.collect-end.result c.tallied-examined.result (l.invariant.3 S covers) l.invariant.2
          (omega arith) (add-one l.i) (omega arith) (omega arith) leg.ensures c.collect-end.ensures.value c.collect-end.ensures.addresses_after
          c.tallied-examined.ensures,
    )

pub note_leg-leg-requires-2 : goal.note_leg-leg-requires-2
note_leg-leg-requires-2 c =
    record {
      right_profile = c.requires.right_profile;
      i_bound = omega arith;
    }

pub tallied-examined-requires-2 : goal.tallied-examined-requires-2
tallied-examined-requires-2 c =
    let range = c.note_leg-leg-2.ensures.range in
    (omega arith, range.order, omega (arith, few-hops (goal.at.tallied-examined-requires-2 c).After-shared_slice_known-1, range.within))

pub put_destination-requires : goal.put_destination-requires
put_destination-requires c =
    let room = c.loop-i.invariant.2 in
    (omega arith, omega arith, room.for_addresses_lem, room.for_starts)

pub returns : goal.returns
returns c =
    let a = c.args in
    let l = c.loop-i in
    let leg = c.note_leg-leg-2 in
    let put = c.put_destination.ensures in
    λ S covers.
    let from_first : Covers S (layout_of a.layout) a.s.now a.stops.now a.count (get_or (set a.levels.now.addresses 0 a.source.0) 0 0) a.destination.0 =
    rw (get_or-set_same a.levels.now.addresses 0 a.source.0 0 (omega (arith, c.requires.several.1.for_addresses_lem))) covers in
    let last : l.i ≡ a.count - 1 = omega (arith, c.requires.several.0.some) in
    let filled = subst (λ (n : ℕ). Filled S (layout_of a.layout) a.s.now l.levels.addresses l.levels.starts l.levels.firsts l.levels.lasts l.end l.examined n) last (l.invariant.3 S from_first) in
    rw (put.0, put.1)
    (last-filled S (layout_of a.layout) a.s.now a.stops.now a.count _ _ c.requires.several.0 covers l.levels.addresses l.levels.starts l.levels.firsts l.levels.lasts l.end l.examined
    (a.count - 1) (a.count + 1) _ _ leg.result.first leg.result.last c.tallied-examined-2.result filled l.invariant.2 c.requires.right_profile.passed (omega arith) (omega arith) (omega arith)
    leg.ensures c.tallied-examined-2.ensures)
