-- What the recursion over the places finds and writes: the first of the cheapest suffixes whose second address is wanted; and a suffix written from its place on.
use Rattle.std.specs.Prelude.{◌≡◌, Bool, true, false, List, [], ◌∷◌, ℕ, suc, length}
use Rattle.std.proofs.Math.Option.{Option, none, some}
use Rattle.std.proofs.Math.Seq.{paste}
use Rattle.model.specs.declared.Hop.{Hop}
use Rattle.model.specs.Request.{Search}
use Rattle.model.specs.Path.{Leg, Route}
use Rattle.laws.specs.Descent.{shortest_hops, behind_first, first_from}
use Rattle.path_step.specs.declared.Heads.{Heads}
use Rattle.path_step.specs.Onward.{wanted_hops}

-- with no leg left the address alone; else behind the first wanted hop on a shortest way
unfoldable pub first_by : Search → List Leg → ℕ → ℕ → Heads → Option Route
first_by S [] i a which = first_from S [] i a
first_by S (leg ∷ rest) i a which =
    behind_first a (λ (h : Hop). first_from S rest (suc i) h.head.0) (wanted_hops which (shortest_hops S leg rest i a))

abbrev pub is_found : Option Route → Bool
is_found none = false
is_found (some r) = true

-- a list with the addresses found written from place i on; as it was where nothing is found
abbrev pub routed : ℕ → Option Route → List ℕ → List ℕ
routed i none old = old
routed i (some r) old = paste old i r.addresses (length r.addresses)

-- what a call says and writes: whether something is found, and the addresses found from place i on
pub record Written (i : ℕ) (o : Option Route) (old : List ℕ) (found : Bool) (new : List ℕ) : Type 0 where
  pub says : found ≡ is_found o
  pub holds : new ≡ routed i o old
