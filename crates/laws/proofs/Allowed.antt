-- What `allowed` says of an address at place i of a path: it isn't excluded; at a domain (i below the number of domains) the domain isn't excluded and its entry
-- constraint is kept; at the end it is the destination. And that this is enough. By its tests.
use mathlib.Core.Path.{◌≡◌, refl, sym, subst}
use mathlib.Core.Bool.{Bool, true, false, not}
use Prim.Native.Nat.{ℕ, ◌≤◌, ◌<◌}
use lib.ListN.{length}
use lib.Dec.{ltb}
use borrow.Author.Tests.{lt-ltb, le-ltb, eqb-true, eq-eqb, not-true}
use Rattle.model.specs.Request.{Search}
use Rattle.model.specs.Path.{stop_at, keeps_pin, domain_excluded_at, node_excluded_at, place_allows, allowed}
use Rattle.laws.proofs.Tests.{and_both, both_and}

-- the entry constraint of place i is kept by a
abbrev pub pin_kept : Search → ℕ → ℕ → Bool
pin_kept S i a = keeps_pin (stop_at S i).pin a

false_not : (b : Bool) → b ≡ false → not b ≡ true
false_not b e = subst (λ (c : Bool). not c ≡ true) (sym e) refl

module _ (S : Search) (i a : ℕ) where
  pub allowed-node : allowed S i a ≡ true → node_excluded_at S i a ≡ false
  unfolding allowed
  allowed-node t =
      not-true (node_excluded_at S i a)
      (and_both (not (node_excluded_at S i a)) (place_allows (ltb i (length S.sequence)) S i a) t).0

  -- the test at the place, with the comparison that picks it decided
  at_place : {b : Bool} → ltb i (length S.sequence) ≡ b → allowed S i a ≡ true → place_allows b S i a ≡ true
  unfolding allowed
  at_place e t =
      subst (λ (c : Bool). place_allows c S i a ≡ true) e
      (and_both (not (node_excluded_at S i a)) (place_allows (ltb i (length S.sequence)) S i a) t).1

  pub allowed-domain : i < length S.sequence → allowed S i a ≡ true → domain_excluded_at S i ≡ false
  allowed-domain l t =
      not-true (domain_excluded_at S i) (and_both (not (domain_excluded_at S i)) (pin_kept S i a) (at_place (lt-ltb i (length S.sequence) l) t)).0

  pub allowed-pin : i < length S.sequence → allowed S i a ≡ true → pin_kept S i a ≡ true
  allowed-pin l t = (and_both (not (domain_excluded_at S i)) (pin_kept S i a) (at_place (lt-ltb i (length S.sequence) l) t)).1

  pub allowed-destination : length S.sequence ≤ i → allowed S i a ≡ true → a ≡ S.destination
  allowed-destination l t = eqb-true a S.destination (at_place (le-ltb i (length S.sequence) l) t)

  place-allowed
      : {b : Bool}
      → ltb i (length S.sequence) ≡ b
      → node_excluded_at S i a ≡ false
      → place_allows b S i a ≡ true
      → allowed S i a ≡ true
  unfolding allowed
  place-allowed e n t =
      both_and (not (node_excluded_at S i a)) (place_allows (ltb i (length S.sequence)) S i a) (false_not (node_excluded_at S i a) n)
      (subst (λ (c : Bool). place_allows c S i a ≡ true) (sym e) t)

  pub domain-allowed
      : i < length S.sequence
      → node_excluded_at S i a ≡ false
      → domain_excluded_at S i ≡ false
      → pin_kept S i a ≡ true
      → allowed S i a ≡ true
  domain-allowed l n d p =
      place-allowed (lt-ltb i (length S.sequence) l) n (both_and (not (domain_excluded_at S i)) (pin_kept S i a) (false_not (domain_excluded_at S i) d) p)

  pub destination-allowed : length S.sequence ≤ i → node_excluded_at S i a ≡ false → a ≡ S.destination → allowed S i a ≡ true
  destination-allowed l n e = place-allowed (le-ltb i (length S.sequence) l) n (eq-eqb a S.destination e)
