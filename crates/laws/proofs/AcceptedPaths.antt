-- The law `paths_are_the_paths` for accepted requests: the profile's checks bound the costs, and the reading of the include list the number of domains.
-- That the hop records stand in file order is a hypothesis here.
use mathlib.Core.Path.{◌≡◌, sym, subst}
use mathlib.Core.List.{List, Memᴰ}
use Prim.Native.Nat.{ℕ, ◌≤◌}
use native.Mathlib.Omega.{arith}
use Rattle.model.specs.Verdict.{Pass}
use Rattle.model.specs.declared.Hop.{Hop}
use Rattle.model.specs.declared.Round.{Round}
use Rattle.model.specs.Lists.{count_from}
use Rattle.model.specs.Profile.{Layout, profile_verdict, hop_count, hop_at, hops}
use Rattle.model.specs.Sequence.{Stop}
use Rattle.model.specs.Request.{Request, layout_for, Accepted, search_in}
use Rattle.model.specs.Rounds.{round_of, search_of}
use Rattle.laws.proofs.Lists.{map_mem, count_from_mem}
use Rattle.laws.proofs.Layouts.{cost_limited}
use Rattle.laws.proofs.Accepted.{accepted}
use Rattle.laws.proofs.HopKeys.{SortedHops}
use Rattle.laws.proofs.AcceptedRequest.{accepted-profile, accepted-length}
use Rattle.laws.proofs.PathsAreThePaths.{ThePaths, paths_are_the_paths}

-- the hops of an accepted profile cost at most the layout's limit
pub accepted-costs : (L : Layout) (s : List ℕ) → profile_verdict L s ≡ Pass → (h : Hop) → Memᴰ h (hops L s) → h.cost ≤ L.most_cost
unfolding hops
accepted-costs L s e h m =
    let k = map_mem (hop_at L s) (count_from 0 (hop_count s)) m in
    let i = count_from_mem 0 (hop_count s) k.1 in
    subst (λ (g : Hop). g.cost ≤ L.most_cost) (sym k.2) ((accepted L s e).hop k.0 (omega arith)).cost_in_range

-- in either round
pub accepted-paths-in
    : (x : Round) (r : Request) (sequence : List Stop)
    → Accepted r sequence
    → SortedHops (hops (layout_for r) r.profile)
    → ThePaths (search_in x r sequence)
unfolding search_in
accepted-paths-in x r sequence e s =
    paths_are_the_paths (search_in x r sequence) s (accepted-length r sequence e).1
    (λ h m. omega (arith, accepted-costs (layout_for r) r.profile (accepted-profile r sequence e) h m, cost_limited r.profile))

-- and so in the one that applies
pub accepted-paths
    : (r : Request) (sequence : List Stop)
    → Accepted r sequence
    → SortedHops (hops (layout_for r) r.profile)
    → ThePaths (search_of r sequence)
unfolding search_of
accepted-paths r sequence = accepted-paths-in (round_of r sequence) r sequence
