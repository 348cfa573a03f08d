-- Paths, their totals, the bound and the shortest paths: document 01, "Paths and the tree". `IsWay`, `IsPath` and `Admissible` say in document 01's words
-- what the enumeration below lists; that they agree is a law. Document 01's "listing" is `shortest_paths`, its "way" a suffix.
use Rattle.std.specs.Prelude.{ℕ, suc, ◌+◌, ◌-◌, ◌≤◌, ◌<◌, ◌≡◌, Bool, true, false, not, ◌&&◌, length, get_or, drop, eqb, leb, ltb}
use mathlib.Core.List.{List, [], ◌∷◌, ◌++◌, map, Memᴰ}
use Rattle.std.proofs.Math.Option.{Option, none, some}
use Rattle.model.specs.declared.Hop.{Hop}
use Rattle.model.specs.declared.Limits.{Limits}
use Rattle.model.specs.Lists.{all, each, keep}
use Rattle.model.specs.Profile.{between}
use Rattle.model.specs.Subobject.{Subobject}
use Rattle.model.specs.Sequence.{Stop, stop, domain_of}
use Rattle.model.specs.Exclusion.{excluded_domain, excluded_node}
use Rattle.model.specs.Floats.{at_least, at_most}
use Rattle.model.specs.Request.{Search}

-- ---- the steps of a path: from Di to Di+1, and last from Dk to Dk

pub record Leg : Type 0 where
  pub from : ℕ
  pub to : ℕ

unfoldable pub legs : List Stop → List Leg
legs [] = []
legs (d ∷ []) = record { from = d.domain; to = d.domain } ∷ []
legs (d ∷ e ∷ rest) = record { from = d.domain; to = e.domain } ∷ legs (e ∷ rest)

-- a hop is usable exactly if its bandwidth is at least that asked for
abbrev pub usable : Search → Hop → Bool
usable S h = at_least S.limits.bandwidth h.bandwidth

-- an entry constraint is kept
abbrev pub keeps_pin : Option ℕ → ℕ → Bool
keeps_pin none a = true
keeps_pin (some node) a = eqb a node

abbrev pub no_stop : Stop
no_stop = stop 0 none []

abbrev pub no_leg : Leg
no_leg = record { from = 0; to = 0 }

abbrev pub stop_at : Search → ℕ → Stop
stop_at S i = get_or S.sequence i no_stop

abbrev pub leg_at : Search → ℕ → Leg
leg_at S i = get_or (legs S.sequence) i no_leg

-- The exclusions that count at place i of a path, for its domain and its address: those that count at every place, and those that the EXRS of the domain there
-- carry. Behind the last domain, at the destination, there are none of these; nor at the source, since the first domain has no EXRS.
unfoldable pub exclusions_at : Search → ℕ → List Subobject
exclusions_at S i = S.exclusions ++ get_or S.stretches i []

-- the domain at place i is excluded, and an address at place i
abbrev pub domain_excluded_at : Search → ℕ → Bool
domain_excluded_at S i = excluded_domain (exclusions_at S i) (domain_of S.domains (stop_at S i).domain)

abbrev pub node_excluded_at : Search → ℕ → ℕ → Bool
node_excluded_at S i a = excluded_node (exclusions_at S i) a

-- ---- a path in document 01's words

-- a hop record of a leg leads from a to b, whatever its bandwidth
pub record Crossing (S : Search) (leg : Leg) (a b : ℕ) : Type 0 where
  pub hop : Hop
  pub recorded : Memᴰ hop S.hops
  pub on_leg : between leg.from leg.to hop ≡ true
  pub tail : hop.tail.0 ≡ a
  pub head : hop.head.0 ≡ b

-- a usable one does
pub record Step (S : Search) (leg : Leg) (a b : ℕ) : Type 0 where
  pub crossing : Crossing S leg a b
  pub usable : usable S crossing.hop ≡ true

-- A way from the address a at place i has the shape of a path's tail: from there on an address for each domain and the destination, each step a usable hop record.
-- Only its own addresses (a too) and Di to Dk must keep exclusions and entry constraints.
pub record IsWay (S : Search) (i a : ℕ) (p : List ℕ) : Type 0 where
  pub long : i + length p ≡ suc (length S.sequence)
  pub start : get_or p 0 0 ≡ a
  pub destination : get_or p (length S.sequence - i) 0 ≡ S.destination
  pub steps : (j : ℕ) → i + j < length S.sequence → Step S (leg_at S (i + j)) (get_or p j 0) (get_or p (suc j) 0)
  pub domains : (j : ℕ) → i + j < length S.sequence → domain_excluded_at S (i + j) ≡ false
  pub nodes : (j : ℕ) → i + j ≤ length S.sequence → node_excluded_at S (i + j) (get_or p j 0) ≡ false
  pub pins : (j : ℕ) → i + j < length S.sequence → keeps_pin (stop_at S (i + j)).pin (get_or p j 0) ≡ true

-- A path is a way from the source at place 0: k + 2 addresses, the source, an entry node for each of D1 to Dk, the destination; each step a usable hop record; no domain
-- or address excluded; entry constraints kept
abbrev pub IsPath : Search → List ℕ → Type 0
IsPath S p = IsWay S 0 S.source p

-- the total is the sum of the costs of a path's hops; the hop record from a to b of a leg is the only one
abbrev pub leads : Leg → ℕ → ℕ → Hop → Bool
leads leg a b h = between leg.from leg.to h && (eqb h.tail.0 a && eqb h.head.0 b)

abbrev pub first_cost : List Hop → ℕ
first_cost [] = 0
first_cost (h ∷ hs) = h.cost

unfoldable pub cost_between : List Hop → Leg → ℕ → ℕ → ℕ
cost_between hs leg a b = first_cost (keep (leads leg a b) hs)

unfoldable pub total_over : List Hop → List Leg → List ℕ → ℕ
total_over hs [] more = 0
total_over hs (leg ∷ rest) [] = 0
total_over hs (leg ∷ rest) (a ∷ []) = 0
total_over hs (leg ∷ rest) (a ∷ b ∷ more) = cost_between hs leg a b + total_over hs rest (b ∷ more)

abbrev pub total : Search → List ℕ → ℕ
total S p = total_over S.hops (legs S.sequence) p

-- and from place i on
abbrev pub total_from : Search → ℕ → List ℕ → ℕ
total_from S i p = total_over S.hops (drop i (legs S.sequence)) p

-- the largest total: sixteen hops of the largest cost. That no path has more is a law
abbrev pub total_limit : ℕ
total_limit = 268435440

-- the bound, where it counts
abbrev pub bound_kept : Bool → Limits → ℕ → Bool
bound_kept true l n = at_most n l.bound
bound_kept false l n = true

unfoldable pub keeps_bound : Limits → ℕ → Bool
keeps_bound l n = bound_kept l.bounded l n

-- a path whose total keeps the bound
pub record Admissible (S : Search) (p : List ℕ) : Type 0 where
  pub path : IsPath S p
  pub bound : keeps_bound S.limits (total S p) ≡ true

-- ---- the enumeration: forward over the sequence, the hop records in file order

-- an address may stand at place i of a path: it isn't excluded, and at a domain the domain isn't excluded and its entry constraint is kept, at the end it is the destination
abbrev pub place_allows : Bool → Search → ℕ → ℕ → Bool
place_allows true S i a = not (domain_excluded_at S i) && keeps_pin (stop_at S i).pin a
place_allows false S i a = eqb a S.destination

unfoldable pub allowed : Search → ℕ → ℕ → Bool
allowed S i a = not (node_excluded_at S i a) && place_allows (ltb i (length S.sequence)) S i a

-- addresses with the sum of the costs between them
pub record Route : Type 0 where
  pub addresses : List ℕ
  pub total : ℕ

abbrev pub extended : ℕ → Hop → Route → Route
extended a h r = record { addresses = a ∷ r.addresses; total = h.cost + r.total }

-- the usable hops of a leg that leave an address
abbrev pub leaves : Search → Leg → ℕ → Hop → Bool
leaves S leg a h = between leg.from leg.to h && (eqb h.tail.0 a && usable S h)

unfoldable pub hops_from : Search → Leg → ℕ → List Hop
hops_from S leg a = keep (leaves S leg a) S.hops

abbrev pub routes_if : Bool → List Route → List Route
routes_if true rs = rs
routes_if false rs = []

-- every suffix of a path that starts with the address a at place i and goes over the legs left
unfoldable pub suffixes : Search → List Leg → ℕ → ℕ → List Route
suffixes S [] i a = routes_if (allowed S i a) (record { addresses = a ∷ []; total = 0 } ∷ [])
suffixes S (leg ∷ rest) i a =
    routes_if (allowed S i a) (each (λ (h : Hop). map (extended a h) (suffixes S rest (suc i) h.head.0)) (hops_from S leg a))

unfoldable pub paths : Search → List Route
paths S = suffixes S (legs S.sequence) 0 S.source

unfoldable pub admissible : Search → List Route
admissible S = keep (λ (r : Route). keeps_bound S.limits r.total) (paths S)

-- every admissible path such that every other one has at least its total
unfoldable pub cheapest : List Route → List Route
cheapest rs = keep (λ (r : Route). all (λ (q : Route). leb r.total q.total) rs) rs

unfoldable pub shortest_paths : Search → List Route
shortest_paths S = cheapest (admissible S)
