-- An entry at a place depends only on the hop records of the legs from that place on: a search over other hops that has the same records on those legs has the
-- same ways from there, so the same entries. By recursion on the legs left.
use mathlib.Core.Path.{◌≡◌, refl, sym, ap, subst, ◌∙◌}
use mathlib.Core.Bool.{Bool, true, false, ◌&&◌}
use mathlib.Core.List.{List, [], ◌∷◌, map, Memᴰ}
use Prim.Native.Nat.{ℕ, suc, ◌+◌, ◌≤◌, ◌<◌}
use native.Mathlib.Omega.{arith}
use lib.ListN.{length, drop, length-drop}
use lib.Seq.{get_or-drop}
use lib.Dec.{eqb, ltb}
use Rattle.model.specs.declared.Hop.{Hop}
use Rattle.model.specs.Lists.{each, keep}
use Rattle.model.specs.Profile.{between}
use Rattle.model.specs.Request.{Search}
use Rattle.model.specs.Path.{Leg, legs, no_leg, leg_at, usable, exclusions_at, place_allows, allowed, Route, extended, hops_from, routes_if, suffixes}
use Rattle.model.specs.Tree.{suffixes_at, entry}
use Rattle.laws.specs.Descent.{ending}
use Rattle.laws.specs.Reach.{least_from}
use Rattle.laws.proofs.Picks.{keep-keep}
use Rattle.laws.proofs.Ranges.{mem_place}
use Rattle.laws.proofs.PathsAreThePaths.{length_legs}
use Rattle.laws.proofs.TreeLeast.{entry_of, entry-is}
pub use Rattle.laws.proofs.SameLegs.{over_hops, records_of, SameFrom}

module _ (S : Search) (hs : List Hop) where
  place_same : (b : Bool) (i a : ℕ) → place_allows b (over_hops S hs) i a ≡ place_allows b S i a
  unfolding exclusions_at
  place_same true i a = refl
  place_same false i a = refl

  allowed_same : (i a : ℕ) → allowed (over_hops S hs) i a ≡ allowed S i a
  unfolding exclusions_at allowed
  allowed_same i a = rw (place_same (ltb i (length S.sequence)) i a)

  hops-same : (leg : Leg) (a : ℕ) → records_of leg hs ≡ records_of leg S.hops → hops_from (over_hops S hs) leg a ≡ hops_from S leg a
  unfolding hops_from
  hops-same leg a e =
      sym (keep-keep (λ (h : Hop). eqb h.tail.0 a && usable S h) (between leg.from leg.to) hs)
      ∙ ap (keep (λ (h : Hop). eqb h.tail.0 a && usable S h)) e
      ∙ keep-keep (λ (h : Hop). eqb h.tail.0 a && usable S h) (between leg.from leg.to) S.hops

  -- over the legs left
  suffixes-same
      : (rest : List Leg) → ((leg : Leg) → Memᴰ leg rest → records_of leg hs ≡ records_of leg S.hops)
      → (i a : ℕ) → suffixes (over_hops S hs) rest i a ≡ suffixes S rest i a
  unfolding suffixes
  suffixes-same [] same i a = ap (λ (b : Bool). routes_if b (ending a ∷ [])) (allowed_same i a)
  suffixes-same (leg ∷ rest) same i a =
      λ j.
      routes_if (allowed_same i a j)
      (each (λ (h : Hop). map (extended a h) (suffixes-same rest (λ l m. same l (Memᴰ.tail m)) (suc i) h.head.0 j))
      (hops-same leg a (same leg (Memᴰ.head refl)) j))

  -- a leg left behind place i is that of a place from i on
  left_same : (i : ℕ) → SameFrom S hs i → (leg : Leg) → Memᴰ leg (drop i (legs S.sequence)) → records_of leg hs ≡ records_of leg S.hops
  left_same i same leg m =
      let r = mem_place (drop i (legs S.sequence)) no_leg m in
      let at : leg ≡ leg_at S (i + r.0) = r.2 ∙ get_or-drop i (legs S.sequence) r.0 no_leg in
      let inside : i + r.0 < length S.sequence = omega (arith, length-drop i (legs S.sequence), length_legs S.sequence) in
      subst (λ (l : Leg). records_of l hs ≡ records_of l S.hops) (sym at) (same (i + r.0) (omega arith) inside)

  -- ---- the law

  pub later_ways : (j : ℕ) → SameFrom S hs j → (i a : ℕ) → j ≤ i → suffixes_at (over_hops S hs) i a ≡ suffixes_at S i a
  later_ways j same i a h = suffixes-same (drop i (legs S.sequence)) (left_same i (λ k l. same k (omega arith))) i a

  pub later_entry : (j : ℕ) → SameFrom S hs j → (i a : ℕ) → j ≤ i → entry (over_hops S hs) i a ≡ entry S i a
  later_entry j same i a h =
      entry-is (over_hops S hs) i a
      ∙ ap (λ (ways : List Route). entry_of i a (least_from ways)) (later_ways j same i a h)
      ∙ sym (entry-is S i a)
