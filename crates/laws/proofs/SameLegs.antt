-- A search over other hops, and what it means that it has the same hop records on the legs from a place on.
use mathlib.Core.Path.{◌≡◌}
use mathlib.Core.List.{List}
use Prim.Native.Nat.{ℕ, ◌≤◌, ◌<◌}
use lib.ListN.{length}
use Rattle.model.specs.declared.Hop.{Hop}
use Rattle.model.specs.Lists.{keep}
use Rattle.model.specs.Profile.{between}
use Rattle.model.specs.Request.{Search}
use Rattle.model.specs.Path.{Leg, leg_at}

-- the same search over other hops
abbrev pub over_hops : Search → List Hop → Search
over_hops S hs =
    record {
      domains = S.domains;
      hops = hs;
      sequence = S.sequence;
      exclusions = S.exclusions;
      stretches = S.stretches;
      source = S.source;
      destination = S.destination;
      limits = S.limits;
    }

-- the hop records of a leg
abbrev pub records_of : Leg → List Hop → List Hop
records_of leg hs = keep (between leg.from leg.to) hs

-- every leg from place j on has the same hop records
abbrev pub SameFrom : Search → List Hop → ℕ → Type 0
SameFrom S hs j = (i : ℕ) → j ≤ i → i < length S.sequence → records_of (leg_at S i) hs ≡ records_of (leg_at S i) S.hops
