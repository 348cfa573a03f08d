-- How the destination is reached, as an engine keeps it: whether, and at which least cost (0 where it isn't); the better of two, and a running minimum over a list.
use Rattle.std.specs.Prelude.{Bool, true, false, not, ◌&&◌, ◌||◌, List, [], ◌∷◌, map, ℕ, ◌+◌, ltb}
use Rattle.model.specs.Lists.{is_empty, least}
use Rattle.model.specs.Request.{Search}
use Rattle.model.specs.Path.{Leg, Route, suffixes}

-- the destination can be reached or not, and at which cost
pub record Reach : Type 0 where
  pub reachable : Bool
  pub cost : ℕ

abbrev pub unreached : Reach
unreached = record { reachable = false; cost = 0 }

-- reached at no cost: one is there
abbrev pub arrived : Reach
arrived = record { reachable = true; cost = 0 }

abbrev pub totals : List Route → List ℕ
totals rs = map (λ (r : Route). r.total) rs

-- reachable where there is a route, at the least total
unfoldable pub least_from : List Route → Reach
least_from rs = record { reachable = not (is_empty rs); cost = least (totals rs) }

-- nothing where a test fails
abbrev pub reach_if : Bool → Reach → Reach
reach_if true x = x
reach_if false x = unreached

abbrev pub better_if : Bool → Reach → Reach → Reach
better_if true best new = new
better_if false best new = best

-- the better of what was found so far and what is found now: the new one where it is reachable, and is the first or costs less
abbrev pub better : Reach → Reach → Reach
better best new = better_if (new.reachable && (not best.reachable || ltb new.cost best.cost)) best new

-- what is reachable behind a hop of some cost
abbrev pub via : ℕ → Reach → Reach
via c there = reach_if there.reachable (record { reachable = true; cost = c + there.cost })

-- a running minimum over a list, from what was found before
module _ {A : Type 0} where
  unfoldable pub best_from : Reach → (A → Reach) → List A → Reach
  best_from best f [] = best
  best_from best f (x ∷ xs) = best_from (better best (f x)) f xs

-- the reach from the address a at place i over the legs left
abbrev pub reach_from : Search → List Leg → ℕ → ℕ → Reach
reach_from S ls i a = least_from (suffixes S ls i a)
