-- Where an entry node stands in one domain's part of the tree. Document 02, [2]: halving gives the same answer as a walk from the start, found or not, for every
-- address and every strictly ascending part of up to 16 entries, and five looks at entries settle it.
use Rattle.std.specs.Prelude.{◌≡◌, Bool, true, false, List, [], ◌∷◌, ℕ, zero, suc, ◌+◌, ◌-◌, ◌/◌, ◌≤◌, ◌<◌, length, get_or, eqb, ltb, Option, Some, None}
use Rattle.std.proofs.Math.Seq.{slice}
use Rattle.laws.specs.Sorted.{Sorted}
use Rattle.tree_lookup.specs.declared.LookUp.{LookUp}

-- one domain's part of the tree: `count` entries from place `at` on, at most 16, their addresses strictly ascending
pub record Part (addresses : List ℕ) (at count : ℕ) : Type 0 where
  pub inside : at + count ≤ length addresses
  pub few : count ≤ 16
  pub ascending : Sorted ◌<◌ (slice at (at + count) addresses)

-- the walk from the start: where an address stands in a list whose first element has place `at`
abbrev pub place_if : Bool → ℕ → Option ℕ → Option ℕ
place_if true at other = Some at
place_if false at other = other

unfoldable pub place_in : ℕ → List ℕ → ℕ → Option ℕ
place_in at [] v = None
place_in at (a ∷ nodes) v = place_if (eqb a v) at (place_in (suc at) nodes v)

-- ---- halving, and its looks

abbrev pub unseen : LookUp
unseen = record { place = None; looks = 0 }

-- one look before what is left of the search
abbrev pub counted : LookUp → LookUp
counted rest = record { place = rest.place; looks = suc rest.looks }

-- after a look: it is the address looked for, or the search goes on, above or below
abbrev pub seen_if : Bool → ℕ → LookUp → LookUp
seen_if true middle rest = record { place = Some middle; looks = 1 }
seen_if false middle rest = counted rest

abbrev pub side_if : Bool → LookUp → LookUp → LookUp
side_if true above below = above
side_if false above below = below

abbrev pub look_if : Bool → LookUp → LookUp
look_if true seen = seen
look_if false seen = unseen

abbrev pub middle_of : ℕ → ℕ → ℕ
middle_of low high = low + (high - low) / 2

-- a search among the places from `low` up to `high` that may look at k entries, each time the one in the middle, and counts its looks; it gives up where it would need more
unfoldable pub halving : ℕ → List ℕ → ℕ → ℕ → ℕ → LookUp
halving zero xs low high v = unseen
halving (suc k) xs low high v =
    let middle = middle_of low high in
    let here = get_or xs middle 0 in
    look_if (ltb low high) (seen_if (eqb here v) middle (side_if (ltb here v) (halving k xs (suc middle) high v) (halving k xs low middle v)))

-- five looks settle it: the answer is the walk's, it is that of a search that may look five times, and it carries the number of looks made
pub record Found (addresses : List ℕ) (at count v : ℕ) (r : LookUp) : Type 0 where
  pub as_walked : r.place ≡ place_in at (slice at (at + count) addresses) v
  pub by_halving : r ≡ halving 5 addresses at (at + count) v
  pub in_five : r.looks ≤ 5
