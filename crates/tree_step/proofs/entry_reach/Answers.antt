-- `tree_step::entry_reach` meets its contract: nothing where the entry isn't allowed, else the best of the hop records that leave it.
use mathlib.Core.Path.{refl, sym, ap, ◌∙◌}
use mathlib.Core.Bool.{Bool}
use Rattle.tree_reaches.proofs.Codes.{reach_none}
use lib.Seq.{slice}
use Rattle.model.specs.declared.Hop.{Hop}
use Rattle.model.specs.Lists.{keep}
use Rattle.model.specs.Profile.{hops}
use Rattle.laws.specs.Reach.{Reach, unreached, reach_if, best_from}
use Rattle.profile_records.specs.Layout.{layout_of}
use Rattle.profile_hop_range.specs.Ranges.{leaves_node}
use Rattle.tree_reaches.specs.Reaches.{way_on}
use Rattle.tree_step.proofs.entry_reach.Goals as goal

pub returns-then-not-allowed_at : goal.returns-then-not-allowed_at
returns-then-not-allowed_at c =
    let a = c.args.step.now in
    let L = layout_of a.layout in
    reach_none 4294967295 refl
    ∙ sym
    (ap
    (λ (b : Bool). reach_if b (best_from unreached (way_on a.asked (slice a.leg.next a.leg.end a.addresses.now) (slice a.leg.next a.leg.end c.args.reaches.now)) (keep (leaves_node a.leg.from.0 a.leg.to.0 c.args.node.0) (hops L a.profile.now))))
    (sym c.allowed_at.ensures ∙ c.if-not-allowed_at.true))

pub tail_range-range-requires : goal.tail_range-range-requires
tail_range-range-requires c =
    record {
      right_profile = c.requires.right_profile;
      pair_range = c.requires.pair_range;
    }

pub best_from-requires : goal.best_from-requires
best_from-requires c =
    let range = c.tail_range-range.ensures in
    record {
      right_profile = c.requires.right_profile;
      first_le_last = (range.order, range.within, c.requires.exclude_value.1);
      next_place = c.requires.next_place;
    }

pub returns : goal.returns
returns c =
    let a = c.args.step.now in
    let L = layout_of a.layout in
    let f : Hop → Reach = way_on a.asked (slice a.leg.next a.leg.end a.addresses.now) (slice a.leg.next a.leg.end c.args.reaches.now) in
    c.best_from.ensures
    ∙ ap (best_from unreached f) (sym c.tail_range-range.ensures.those)
    ∙ sym
    (ap (λ (b : Bool). reach_if b (best_from unreached f (keep (leaves_node a.leg.from.0 a.leg.to.0 c.args.node.0) (hops L a.profile.now))))
    (sym c.allowed_at.ensures ∙ c.if-not-allowed_at.false))
