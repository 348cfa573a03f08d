-- One domain's step in plain terms: what an entry's reach is, by the entry's own tests, the hop records that leave it and the numbers of the next place.
use Rattle.std.specs.Prelude.{Bool, not, ◌&&◌, List, map, ℕ, Float, Option}
use Rattle.std.proofs.Math.Seq.{slice}
use Rattle.model.specs.declared.NodeAddress.{NodeAddress}
use Rattle.model.specs.Lists.{keep}
use Rattle.model.specs.Profile.{Layout, hops}
use Rattle.model.specs.Subobject.{Subobject}
use Rattle.model.specs.Exclusion.{excluded_node}
use Rattle.model.specs.Path.{keeps_pin}
use Rattle.laws.specs.Lists.{Lists}
use Rattle.laws.specs.Stops.{pin_as}
use Rattle.laws.specs.Reach.{Reach, unreached, reach_if, best_from}
use Rattle.list_exclusion.specs.Place.{exclusions_there}
use Rattle.profile_hop_range.specs.Ranges.{leaves_node}
use Rattle.tree_step.specs.declared.Leg.{Leg}
use Rattle.tree_reaches.specs.Reaches.{code_of, way_on}

-- the exclusions that count at the leg's first place
abbrev pub leg_exclusions : Lists → Leg → List Subobject
leg_exclusions lists leg = exclusions_there leg.round lists leg.exrs leg.named

-- a node may be an entry where these count: it isn't excluded, its domain isn't either, and the entry constraint is kept
abbrev pub allowed_by : List Subobject → Bool → Option NodeAddress → ℕ → Bool
allowed_by exclusions excluded pin a = not (excluded_node exclusions a) && (not excluded && keeps_pin (pin_as pin) a)

-- the best of the hop records of the leg that leave the entry, where it is allowed
abbrev pub entry_reach : Layout → List ℕ → Lists → Leg → Float → List ℕ → List ℕ → ℕ → Reach
entry_reach L s lists leg asked nodes codes a =
    reach_if (allowed_by (leg_exclusions lists leg) leg.excluded leg.pin a)
    (best_from unreached (way_on asked nodes codes) (keep (leaves_node leg.from.0 leg.to.0 a) (hops L s)))

abbrev pub entry_code : Layout → List ℕ → Lists → Leg → Float → List ℕ → List ℕ → ℕ → ℕ
entry_code L s lists leg asked nodes codes a = code_of (entry_reach L s lists leg asked nodes codes a)

-- the numbers of all entries of the leg's domain, over two lists that hold the addresses and the numbers of all places
abbrev pub level_codes : Layout → List ℕ → Lists → Leg → Float → List ℕ → List ℕ → List ℕ
level_codes L s lists leg asked addresses codes =
    map (entry_code L s lists leg asked (slice leg.next leg.end addresses) (slice leg.next leg.end codes)) (slice leg.start leg.next addresses)
