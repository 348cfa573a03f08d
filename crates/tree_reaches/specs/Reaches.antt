-- How an entry reaches the destination as one number: its least cost, or `unreachable`. Cost 0 is a price like any other.
use Rattle.std.specs.Prelude.{Bool, true, false, not, List, [], ◌∷◌, ℕ, ◌+◌, ◌-◌, ◌≤◌, ◌<◌, length, eqb, Float}
use Rattle.std.proofs.Math.Seq.{slice}
use Rattle.model.specs.declared.Hop.{Hop}
use Rattle.model.specs.Floats.{at_least}
use Rattle.model.specs.Profile.{cost_limit}
use Rattle.model.specs.Request.{Search}
use Rattle.model.specs.Tree.{entry}
use Rattle.laws.specs.Reach.{Reach, reach_if, via}
use Rattle.tree_lookup.specs.LookUp.{Part}

abbrev pub unreachable : ℕ
unreachable = 4294967295

abbrev pub code_if : Bool → ℕ → ℕ
code_if true n = n
code_if false n = unreachable

abbrev pub code_of : Reach → ℕ
code_of x = code_if x.reachable x.cost

-- and back
abbrev pub reach_of : ℕ → Reach
reach_of n = reach_if (not (eqb n unreachable)) (record { reachable = true; cost = n })

-- the number of an address at a place of the sequence
unfoldable pub code_at : Search → ℕ → ℕ → ℕ
code_at S i a = code_if (entry S i a).reachable (entry S i a).cost

-- a number to which the cost of a hop can be added
abbrev pub Small : ℕ → Type 0
Small n = n < unreachable → cost_limit + n < unreachable

-- the number that stands beside an address; unreachable where the address isn't there
abbrev pub beside_if : Bool → ℕ → ℕ → ℕ
beside_if true n other = n
beside_if false n other = other

unfoldable pub beside : List ℕ → List ℕ → ℕ → ℕ
beside [] codes v = unreachable
beside (a ∷ nodes) [] v = unreachable
beside (a ∷ nodes) (n ∷ codes) v = beside_if (eqb a v) n (beside nodes codes v)

-- a hop record as a way on: where its bandwidth is enough, its cost and what is least at its head
abbrev pub way_on : Float → List ℕ → List ℕ → Hop → Reach
way_on asked addresses codes h = reach_if (at_least asked h.bandwidth) (via h.cost (reach_of (beside addresses codes h.head.0)))

-- the part of two lists that has the next place's addresses, among which one is looked up, and their numbers, to each of which a hop's cost can be added
pub record NextPlace (addresses codes : List ℕ) (from to : ℕ) : Type 0 where
  pub order : from ≤ to
  pub part : Part addresses from (to - from)
  pub in_codes : to ≤ length codes
  pub small : (v : ℕ) → Small (beside (slice from to addresses) (slice from to codes) v)
