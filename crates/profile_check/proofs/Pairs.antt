-- Records in strict order by (D, E, u, v) have their pairs (D, E) in order too, so the records of one pair stand together: a record whose pair is not
-- that of the record before it is the first of its pair. The pair is compared as the number of the record's first four bytes.
use mathlib.Core.Path.{◌≡◌, refl, sym, subst, ◌∙◌}
use mathlib.Core.Bool.{Bool, true, false, ◌&&◌, ◌||◌, true≢false}
use mathlib.Core.List.{List}
use Prim.Native.Nat.{ℕ, zero, suc, ◌+◌, ◌*◌, ◌<◌, ◌≤◌}
use native.Mathlib.Nat.{le_refl}
use native.Mathlib.Omega.{arith}
use borrow.Author.Tests.{ltb-true, leb-true, leb-false, eqb-true, eq-eqb, not-false}
use lib.ListN.{get_or}
use lib.Dec.{ltb, leb, eqb}
use Rattle.model.specs.Lists.{below}
use Rattle.model.specs.Bytes.{number, part}
use Rattle.model.specs.Profile.{Layout, hop_start, hop_at, hop_misordered, between}
use Rattle.laws.proofs.BigEndian.{number_add, number_bound}
use Rattle.laws.proofs.Words.{below_word}
use Rattle.profile_records.specs.Layout.{HopsWithin}
use Rattle.profile_records.proofs.Fields.{hop-within}
use Rattle.laws.proofs.Tests.{and_both}

not_above : (x y : ℕ) (rest : Bool) → ltb x y || (eqb x y && rest) ≡ true → x ≤ y
not_above x y rest e = go (ltb x y) (eqb x y) refl refl e
  where
    go : (t u : Bool) → ltb x y ≡ t → eqb x y ≡ u → t || (u && rest) ≡ true → x ≤ y
    go true u p q h = omega (arith, ltb-true x y p)
    go false true p q h = omega (arith, eqb-true x y q)
    go false false p q h = absurd (true≢false (sym h))

module _ (L : Layout) (s : List ℕ) (n : ℕ) (bytes : (i : ℕ) → get_or s i 0 < 256) (within : HopsWithin L s n) (ordered : (k : ℕ) → k < n → hop_misordered L s k ≡ false) where
  pair_parts : (j : ℕ) → number 4 s (hop_start L s j) ≡ number 2 s (hop_start L s j) * 65536 + number 2 s (hop_start L s j + 2)
  pair_parts j = number_add 2 2 s (hop_start L s j)

  next : (j : ℕ) → suc j < n → number 4 s (hop_start L s j) ≤ number 4 s (hop_start L s (suc j))
  unfolding hop_misordered
  next j h =
      let here = hop-within L s j n within (omega arith) in
      let after = hop-within L s (suc j) n within h in
      let less : below (part s (hop_start L s j) 12) (part s (hop_start L s (suc j)) 12) ≡ true = not-false _ (ordered (suc j) h) in
      not_above _ _ _
      (sym
      (below_word 4 8 s (hop_start L s j) (hop_start L s (suc j)) bytes (omega (arith, here.inside, here.layout.fields)) (omega (arith, after.inside, after.layout.fields)))
      ∙ less)

  ascend : (j k : ℕ) → j ≤ k → k < n → number 4 s (hop_start L s j) ≤ number 4 s (hop_start L s k)
  ascend j zero h hk =
      let e : j ≡ 0 = omega arith in
      subst (λ (i : ℕ). number 4 s (hop_start L s j) ≤ number 4 s (hop_start L s i)) e (le_refl (number 4 s (hop_start L s j)))
  ascend j (suc k) h hk = reach j k h (next k hk) (λ (hj : j ≤ k). ascend j k hj (omega arith))
    where
      reach : (j k : ℕ) → j ≤ suc k → number 4 s (hop_start L s k) ≤ number 4 s (hop_start L s (suc k))
          → (j ≤ k → number 4 s (hop_start L s j) ≤ number 4 s (hop_start L s k))
          → number 4 s (hop_start L s j) ≤ number 4 s (hop_start L s (suc k))
      reach j k h step before = go (leb j k) refl
        where
          go : (t : Bool) → leb j k ≡ t → number 4 s (hop_start L s j) ≤ number 4 s (hop_start L s (suc k))
          go true e = omega (arith, before (leb-true j k e))
          go false e =
              let same : j ≡ suc k = omega (arith, leb-false j k e) in
              subst (λ (i : ℕ). number 4 s (hop_start L s j) ≤ number 4 s (hop_start L s i)) same (le_refl (number 4 s (hop_start L s j)))

  -- a record whose pair is not that of the record before it is the first of its pair
  pub first_of_pair : (i : ℕ) → suc i < n → (between (hop_at L s (suc i)).from.0 (hop_at L s (suc i)).to.0 (hop_at L s i) ≡ true → ⊥)
      → (j : ℕ) → j < suc i → between (hop_at L s (suc i)).from.0 (hop_at L s (suc i)).to.0 (hop_at L s j) ≡ false
  unfolding hop_at
  first_of_pair i h apart j hj = go (between (hop_at L s (suc i)).from.0 (hop_at L s (suc i)).to.0 (hop_at L s j)) refl
    where
      go : (t : Bool) → between (hop_at L s (suc i)).from.0 (hop_at L s (suc i)).to.0 (hop_at L s j) ≡ t → t ≡ false
      go false e = refl
      go true e =
          let parts = and_both (eqb (number 2 s (hop_start L s j)) (number 2 s (hop_start L s (suc i)))) _ e in
          let from : number 2 s (hop_start L s j) ≡ number 2 s (hop_start L s (suc i)) = eqb-true _ _ parts.0 in
          let to : number 2 s (hop_start L s j + 2) ≡ number 2 s (hop_start L s (suc i) + 2) = eqb-true _ _ parts.1 in
          let low : number 4 s (hop_start L s j) ≤ number 4 s (hop_start L s i) = ascend j i (omega arith) (omega arith) in
          let high : number 4 s (hop_start L s i) ≤ number 4 s (hop_start L s (suc i)) = next i h in
          let a : number 2 s (hop_start L s i + 2) < 65536 = number_bound 2 s (hop_start L s i + 2) bytes in
          let b : number 2 s (hop_start L s (suc i) + 2) < 65536 = number_bound 2 s (hop_start L s (suc i) + 2) bytes in
          let first : number 2 s (hop_start L s i) ≡ number 2 s (hop_start L s (suc i)) = omega (arith, pair_parts i, pair_parts j, pair_parts (suc i)) in
          let second : number 2 s (hop_start L s i + 2) ≡ number 2 s (hop_start L s (suc i) + 2) = omega (arith, pair_parts i, pair_parts j, pair_parts (suc i)) in
          absurd (apart (rw (eq-eqb (number 2 s (hop_start L s i)) (number 2 s (hop_start L s (suc i))) first) (eq-eqb (number 2 s (hop_start L s i + 2)) (number 2 s (hop_start L s (suc i) + 2)) second)))
