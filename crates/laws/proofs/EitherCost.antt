-- The verdict on a profile is the same whichever of a record's costs counts: both are judged alike, and no other check reads one. By the checks one after the other.
use Prim.Native.Nat.{ℕ, zero, suc, ◌+◌}
use mathlib.Core.Path.{◌≡◌, refl, ap, ap₂}
use mathlib.Core.Bool.{Bool, true, false, not, ◌&&◌, ◌||◌}
use mathlib.Core.List.{List, [], ◌∷◌, map}
use lib.ListN.{length, take}
use lib.Dec.{eqb, leb, ltb}
use Rattle.model.specs.declared.Hop.{Hop}
use Rattle.model.specs.Lists.{count_from, different, keep_if, keep}
use Rattle.model.specs.Verdict.{Verdict, refuse_if, ◌and_then◌, in_turn}
use Rattle.model.specs.Reserved.{address_ranges, misplaced}
use Rattle.model.specs.Profile.{Layout, class_of, domain_count, hop_count, header_wrong, counts_wrong, length_wrong, header_verdict, domain_verdict, cost_of_hop, other_cost, bandwidth_bits, hop_at, hops, hop_malformed, hop_misordered, hop_verdict, between, entry_nodes, crowded, crowded_verdict, profile_verdict}

-- the layout in which the other cost counts
abbrev pub other_way : Layout → Layout
other_way L = record { version = L.version; hop_size = L.hop_size; cost_at = L.other_at; other_at = L.cost_at; most_cost = L.most_cost; most_hops = L.most_hops }

last_two : (a b c : Bool) → a || b || c ≡ a || c || b
last_two true b c = refl
last_two false true true = refl
last_two false true false = refl
last_two false false true = refl
last_two false false false = refl

abbrev head_of : Hop → ℕ
head_of h = h.head.0

kept : (b : Bool) (x y : Hop) (xs ys : List Hop) → head_of x ≡ head_of y → map head_of xs ≡ map head_of ys → map head_of (keep_if b x xs) ≡ map head_of (keep_if b y ys)
kept true x y xs ys e f = ap₂ (λ (n : ℕ) (ns : List ℕ). n ∷ ns) e f
kept false x y xs ys e f = f

module _ (L : Layout) (s : List ℕ) where
  malformed : (i : ℕ) → hop_malformed (other_way L) s i ≡ hop_malformed L s i
  unfolding hop_malformed hop_at
  malformed i =
      let h = hop_at L s i in
      ap (λ (b : Bool). b || leb 0x7f800000 (bandwidth_bits L s i))
      (last_two (leb (domain_count s) h.from.0 || leb (domain_count s) h.to.0) (ltb L.most_cost (other_cost L s i)) (ltb L.most_cost (cost_of_hop L s i)))

  misordered : (i : ℕ) → hop_misordered (other_way L) s i ≡ hop_misordered L s i
  unfolding hop_misordered
  misordered zero = refl
  misordered (suc i) = refl

  hop-same : (i : ℕ) → hop_verdict (other_way L) s i ≡ hop_verdict L s i
  unfolding hop_verdict hop_at
  hop-same i =
      let h = hop_at L s i in
      let place = domain_count s + i in
      ap₂
      (λ (a b : Bool).
      refuse_if a 17 place
      and_then refuse_if b 18 place
      and_then refuse_if (misplaced (class_of s) address_ranges h.tail.0 || misplaced (class_of s) address_ranges h.head.0) 16 place)
      (malformed i)
      (misordered i)

  heads
      : (d e n : ℕ) (is : List ℕ)
      → map head_of (keep (between d e) (take n (map (hop_at (other_way L) s) is))) ≡ map head_of (keep (between d e) (take n (map (hop_at L s) is)))
  unfolding keep hop_at
  heads d e zero is = refl
  heads d e (suc n) [] = refl
  heads d e (suc n) (i ∷ is) = kept (between d e (hop_at L s i)) (hop_at (other_way L) s i) (hop_at L s i) _ _ refl (heads d e n is)

  crowded-same : (i : ℕ) → crowded_verdict (other_way L) s i ≡ crowded_verdict L s i
  unfolding crowded_verdict crowded hops hop_at entry_nodes
  crowded-same i =
      let h = hop_at L s i in
      ap (λ (ns : List ℕ). refuse_if (not (eqb h.from.0 h.to.0) && ltb 16 (length (different ns))) 19 (domain_count s + i))
      (heads h.from.0 h.to.0 (suc i) (count_from 0 (hop_count s)))

  pub either_cost : profile_verdict (other_way L) s ≡ profile_verdict L s
  unfolding profile_verdict header_verdict header_wrong counts_wrong length_wrong
  either_cost =
      ap₂
      (λ (f g : ℕ → Verdict).
      header_verdict L s and_then in_turn (domain_verdict s) 0 (domain_count s) and_then in_turn f 0 (hop_count s) and_then in_turn g 0 (hop_count s))
      (λ k i. hop-same i k)
      (λ k i. crowded-same i k)
