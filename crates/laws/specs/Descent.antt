-- The first of the cheapest suffixes, and the first above a given list, by recursion over the legs: behind the hops that lie on a shortest way, as an engine goes
-- down the tree.
use Rattle.std.specs.Prelude.{Bool, true, false, ◌&&◌, ℕ, suc, ◌+◌, eqb, ltb}
use mathlib.Core.List.{List, [], ◌∷◌, head?}
use Rattle.std.proofs.Math.Option.{Option, none, some, map}
use Rattle.model.specs.declared.Hop.{Hop}
use Rattle.model.specs.Lists.{keep}
use Rattle.model.specs.Request.{Search}
use Rattle.model.specs.Path.{Leg, Route, extended, hops_from}
use Rattle.laws.specs.Reach.{Reach, reach_from}

module _ {A : Type 0} where
  -- nothing where a test fails
  abbrev pub option_if : Bool → Option A → Option A
  option_if true o = o
  option_if false o = none

  -- the one, or the other where there is none
  abbrev pub or_else : Option A → Option A → Option A
  or_else (some x) o = some x
  or_else none o = o

module _ {A B : Type 0} where
  -- what f gives, where there is something
  abbrev pub through : (A → Option B) → Option A → Option B
  through f none = none
  through f (some x) = f x

-- the destination alone
abbrev pub ending : ℕ → Route
ending a = record { addresses = a ∷ []; total = 0 }

-- a hop lies on a shortest way: its head is reachable, and its cost with the least cost there is the least cost here
abbrev pub on_shortest : Reach → Hop → Reach → Bool
on_shortest here h there = there.reachable && eqb (h.cost + there.cost) here.cost

-- the usable hops of a leg that leave an address and lie on a shortest way, in file order
unfoldable pub shortest_hops : Search → Leg → List Leg → ℕ → ℕ → List Hop
shortest_hops S leg rest i a =
    keep (λ (h : Hop). on_shortest (reach_from S (leg ∷ rest) i a) h (reach_from S rest (suc i) h.head.0)) (hops_from S leg a)

-- ---- the first of the cheapest suffixes

-- behind the first of some hops, what `further` gives for that hop; none where there is no hop or nothing behind it
abbrev pub behind_first : ℕ → (Hop → Option Route) → List Hop → Option Route
behind_first a further hs = through (λ (h : Hop). map (extended a h) (further h)) (head? hs)

-- With no leg left the address alone; else behind the first hop on a shortest way. None where the destination can't be reached.
unfoldable pub first_from : Search → List Leg → ℕ → ℕ → Option Route
first_from S [] i a = option_if (reach_from S [] i a).reachable (some (ending a))
first_from S (leg ∷ rest) i a =
    option_if (reach_from S (leg ∷ rest) i a).reachable
    (behind_first a (λ (h : Hop). first_from S rest (suc i) h.head.0) (shortest_hops S leg rest i a))

-- ---- the recursion along a given list

-- The first of the cheapest suffixes from a whose addresses behind a are above g. With no leg left nothing stands behind a; above the empty list is each.
-- Else, where the first of g is the head of a hop on a shortest way, what is found deeper behind that hop with the rest of g; where there is nothing, the
-- first behind the first such hop of greater head.
unfoldable pub next_after : Search → List Leg → ℕ → ℕ → List ℕ → Option Route
next_after S [] i a g = none
next_after S (leg ∷ rest) i a [] = first_from S (leg ∷ rest) i a
next_after S (leg ∷ rest) i a (y ∷ g) =
    option_if (reach_from S (leg ∷ rest) i a).reachable
    (or_else
    (behind_first a (λ (h : Hop). next_after S rest (suc i) h.head.0 g) (keep (λ (h : Hop). eqb h.head.0 y) (shortest_hops S leg rest i a)))
    (behind_first a (λ (h : Hop). first_from S rest (suc i) h.head.0) (keep (λ (h : Hop). ltb y h.head.0) (shortest_hops S leg rest i a))))

-- the given list's first address is less than a, or is a, or is greater
abbrev pub next_by : Bool → Bool → Option Route → Option Route → Option Route
next_by true equal first deeper = first
next_by false true first deeper = deeper
next_by false false first deeper = none

-- the first of the cheapest suffixes from a that is above a given list
unfoldable pub next_from : Search → List Leg → ℕ → ℕ → List ℕ → Option Route
next_from S ls i a [] = first_from S ls i a
next_from S ls i a (x ∷ g) = next_by (ltb x a) (eqb x a) (first_from S ls i a) (next_after S ls i a g)
