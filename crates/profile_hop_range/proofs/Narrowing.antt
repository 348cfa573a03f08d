-- From the range of the records that pass one test to the range of those of them that pass another: where the second test is told by the key, they are the
-- records whose keys lie in a range. All records, then those of a pair, then those of the pair that leave a node.
use Prim.Native.Nat.{ℕ, ◌≤◌, ◌<◌}
use native.Mathlib.Omega.{arith}
use mathlib.Core.Path.{◌≡◌, refl, sym, ap, subst, ◌∙◌}
use mathlib.Core.Logic.{◌↔◌}
use mathlib.Core.Bool.{Bool, true, false, ◌&&◌}
use mathlib.Core.List.{List, Memᴰ}
use lib.ListN.{get_or}
use lib.Seq.{slice}
use Rattle.model.specs.declared.Hop.{Hop}
use Rattle.model.specs.Lists.{keep}
use Rattle.model.specs.Profile.{Layout, hop_count, hop_at, hops}
use Rattle.laws.proofs.Tests.{refuted}
use Rattle.laws.proofs.Lists.{keep_all, keep_mem}
use Rattle.laws.proofs.Picks.{keep-keep}
use Rattle.laws.proofs.Records.{length-hops, hop_at_lem}
use Rattle.laws.proofs.Ranges.{slice_whole, mem_slice, keep-range}
use Rattle.profile_hop_range.specs.Ranges.{RangeOf}
use Rattle.profile_hop_range.specs.Search.{KeyRange}
use Rattle.profile_hop_range.proofs.Keys.{KeyFrom}

module _ (L : Layout) (s : List ℕ) where
  -- all records
  pub range_all : RangeOf (λ (h : Hop). true) L s 0 (hop_count s)
  range_all =
      record {
        order = omega arith;
        within = omega arith;
        those =
            keep_all (λ (h : Hop). true) (hops L s) (λ h m. refl)
            ∙ sym (slice_whole (hops L s))
            ∙ ap (λ (n : ℕ). slice 0 n (hops L s)) (length-hops L s);
      }

  -- a record of a range passes its test
  range-passes : (p : Hop → Bool) (first last i : ℕ) → RangeOf p L s first last → first ≤ i → i < last → p (hop_at L s i) ≡ true
  range-passes p first last i r l u =
      let m = mem_slice (hops L s) first last i (hop_at L s i) (omega (arith, length-hops L s, r.within)) l u in
      ap p (sym (hop_at_lem L s i (hop_at L s i) (omega (arith, r.within))))
      ∙ (keep_mem p (hops L s) (subst (Memᴰ _) (sym r.those) m)).1

  pub narrow
      : (p q : Hop → Bool) (lo hi key width first last : ℕ)
      → RangeOf p L s lo hi
      → KeyRange L s lo hi key width first last
      → ((i : ℕ) → p (hop_at L s i) ≡ true → (q (hop_at L s i) ≡ true) ↔ KeyFrom (hop_at L s i) key width)
      → RangeOf (λ (h : Hop). p h && q h) L s first last
  narrow p q lo hi key width first last r k told =
      let all = length-hops L s in
      let at : (i : ℕ) → i < hi → get_or (hops L s) i (hop_at L s 0) ≡ hop_at L s i = λ i u. hop_at_lem L s i (hop_at L s 0) (omega arith) in
      let out : (i : ℕ) → lo ≤ i → i < hi → (KeyFrom (hop_at L s i) key width → ⊥) → q (get_or (hops L s) i (hop_at L s 0)) ≡ false =
      λ i l u no. ap q (at i u) ∙ refuted (q (hop_at L s i)) (λ t. no ((told i (range-passes p lo hi i r l u)).0 t)) in
      record {
        order = k.upper.start;
        within = omega arith;
        those =
            sym (keep-keep q p (hops L s))
            ∙ ap (keep q) r.those
            ∙ keep-range (hops L s) q (hop_at L s 0) lo first last hi k.lower.start k.upper.start k.upper.end (omega arith)
            (λ i l u. out i l (omega arith) (λ f. let h = k.lower.below i l u in omega arith))
            (λ i l u.
            ap q (at i (omega arith))
            ∙ (told i (range-passes p lo hi i r (omega arith) (omega arith))).1 (k.lower.above i l (omega arith), k.upper.below i l u))
            (λ i l u. out i (omega arith) u (λ f. let h = k.upper.above i l u in omega arith));
      }
