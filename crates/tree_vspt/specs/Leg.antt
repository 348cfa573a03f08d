-- A leg as the code has it, and the place of a search that it stands for.
use Rattle.std.specs.Prelude.{◌≡◌, Bool, true, false, List, ltb, ℕ, suc}
use Rattle.model.specs.Profile.{Layout}
use Rattle.model.specs.Request.{Search}
use Rattle.model.specs.Path.{leg_at, stop_at, exclusions_at, domain_excluded_at}
use Rattle.profile_hop_range.specs.Ranges.{PairRange}
use Rattle.tree_levels.specs.Levels.{start_of}
use Rattle.laws.specs.Exrs.{Stretch}
use Rattle.laws.specs.Lists.{Lists}
use Rattle.laws.specs.Stops.{pin_as}
use Rattle.tree_step.specs.Step.{leg_exclusions}
use Rattle.tree_step.specs.declared.Leg.{Leg}

-- the place after place i of a sequence of so many: the next one, or, at the last, the same
abbrev pub next_if : Bool → ℕ → ℕ
next_if true i = suc i
next_if false i = i

abbrev pub next_place : ℕ → ℕ → ℕ
next_place count i = next_if (ltb (suc i) count) i

pub record LegIs (S : Search) (lists : Lists) (i : ℕ) (leg : Leg) : Type 0 where
  pub from_is : leg.from.0 ≡ (leg_at S i).from
  pub to_is : leg.to.0 ≡ (leg_at S i).to
  pub exclusions_are : leg_exclusions lists leg ≡ exclusions_at S i
  pub excluded-is : leg.excluded ≡ domain_excluded_at S i
  pub pin-is : pin_as leg.pin ≡ (stop_at S i).pin
  pub start_is : leg.start ≡ start_of S i
  pub next-is : leg.next ≡ start_of S (suc i)
  pub end_is : leg.end ≡ start_of S (suc (suc i))

-- with the leg's hop records, and the stretch of its EXRS
pub record LegFor (L : Layout) (s : List ℕ) (S : Search) (lists : Lists) (i : ℕ) (leg : Leg) : Type 0 where
  pub is : LegIs S lists i leg
  pub stretch : Stretch lists.include leg.exrs leg.named
  pub range : PairRange L s leg.from.0 leg.to.0 leg.hops.first leg.hops.last
