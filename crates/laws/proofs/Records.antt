-- The lists of domain and hop records by index: how many there are, and which stands at a place. From `map` over the first n numbers.
use Prim.Native.Nat.{ℕ, suc, ◌<◌}
use native.Mathlib.Nat.{zero-add}
use native.Mathlib.Omega.{arith}
use mathlib.Core.Path.{◌≡◌, ap, ◌∙◌}
use mathlib.Core.List.{List, [], ◌∷◌, ◌++◌}
use lib.ListN.{length, get_or, take}
use lib.Seq.{take-suc}
use Rattle.model.specs.declared.Domain.{Domain}
use Rattle.model.specs.declared.Hop.{Hop}
use Rattle.model.specs.Profile.{Layout, domain_count, hop_count, domain_at, domains, hop_at, hops}
use Rattle.laws.proofs.ProfileLists.{length-map-count_from, get_or-map-count_from}

pub length-domains : (s : List ℕ) → length (domains s) ≡ domain_count s
unfolding domains
length-domains s = length-map-count_from (domain_at s) 0 (domain_count s)

-- the record at a place, whatever the reader asks for past the last one
pub domain_at_lem : (s : List ℕ) (i : ℕ) (d : Domain) → i < domain_count s → get_or (domains s) i d ≡ domain_at s i
unfolding domains
domain_at_lem s i d h = get_or-map-count_from (domain_at s) 0 (domain_count s) i d h ∙ ap (domain_at s) (zero-add i)

module _ (L : Layout) (s : List ℕ) where
  pub length-hops : length (hops L s) ≡ hop_count s
  unfolding hops
  length-hops = length-map-count_from (hop_at L s) 0 (hop_count s)

  pub hop_at_lem : (i : ℕ) (h : Hop) → i < hop_count s → get_or (hops L s) i h ≡ hop_at L s i
  unfolding hops
  hop_at_lem i h k = get_or-map-count_from (hop_at L s) 0 (hop_count s) i h k ∙ ap (hop_at L s) (zero-add i)

  -- one more record of the first ones
  pub take-hops : (i : ℕ) → i < hop_count s → take (suc i) (hops L s) ≡ take i (hops L s) ++ (hop_at L s i ∷ [])
  take-hops i h =
      take-suc (hops L s) i (hop_at L s i) (omega (arith, length-hops))
      ∙ ap {B = List Hop} (λ (x : Hop). take i (hops L s) ++ (x ∷ [])) (hop_at_lem i (hop_at L s i) h)
