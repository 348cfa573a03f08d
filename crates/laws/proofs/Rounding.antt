-- Of all multiples of p, that of `closest n p` is nearest to n, and where another is as near `closest n p` is even. By how twice the remainder compares with p.
use mathlib.Core.Path.{◌≡◌, refl, sym, ap, ◌∙◌, subst}
use mathlib.Core.Bool.{Bool, true, false, not}
use mathlib.Core.Logic.{◌⊎◌, inl, inr}
use Prim.Native.Nat.{ℕ, ◌+◌, ◌*◌, ◌/◌, ◌%◌, ◌≤◌, ◌<◌, compare, Ordering}
use native.Mathlib.Nat.{le_of_lt, add-zero, add-mul, one-mul, suc-mul, mul-le-mul_right, div-add-mod', mod-lt}
use native.Mathlib.Omega.{arith}
use borrow.Author.Tests.{leb-true, leb-false, eqb-true, eqb-false}
use lib.Dec.{T, is_le, compare_is_eq, eqb, leb, leb→le, nleb→lt, eqb→eq, eqb_refl}
use lib.Arith.{lt_of_le-ne}
use lib.Ieee.{nearest}
use lib.Ieee.Nearest.{closest}
use Rattle.model.specs.Floats.{apart}
use Rattle.laws.proofs.Tests.{decide}

-- ---- what `compare` says

abbrev Compared : Ordering → ℕ → ℕ → Type 0
Compared Ordering.lt a b = a < b
Compared Ordering.eq a b = a ≡ b
Compared Ordering.gt a b = b < a

compared : (a b : ℕ) → Compared (compare a b) a b
compared a b = go (compare a b) (leb→le a b) (nleb→lt a b) (eqb→eq a b) (λ (e : a ≡ b). subst (λ (x : ℕ). T (eqb a x)) e (eqb_refl a))
  where
    go : (o : Ordering) → (T (is_le o) → a ≤ b) → (T (not (is_le o)) → b < a) → (T (compare_is_eq o) → a ≡ b) → (a ≡ b → T (compare_is_eq o)) → Compared o a b
    go Ordering.lt h k e n = lt_of_le-ne (h tt) n
    go Ordering.eq h k e n = e tt
    go Ordering.gt h k e n = k tt

module _ (n p : ℕ) (P : 0 < p) where
  abbrev q : ℕ
  q = n / p

  abbrev r : ℕ
  r = n % p

  -- the multiple at or below n, where the remainder is at most half of p; or the next one, where it is at least half
  abbrev Side : ℕ → Type 0
  Side k = ((k * p ≡ q * p) × (r * 2 ≤ p)) ⊎ ((k * p ≡ q * p + p) × (p ≤ r * 2))

  -- at a tie the even number
  record Chosen (k : ℕ) : Type 0 where
    side : Side k
    tie : r * 2 ≡ p → k % 2 ≡ 0

  at_tie : r * 2 ≡ p → (b : Bool) → eqb (q % 2) 0 ≡ b → Side (q + q % 2)
  at_tie h true e = inl (ap (λ (z : ℕ). (q + z) * p) (eqb-true (q % 2) 0 e) ∙ ap (λ (z : ℕ). z * p) (add-zero q), omega arith)
  at_tie h false e =
      let one : q % 2 ≡ 1 = let z = eqb-false (q % 2) 0 e in omega arith in
      inr (ap (λ (z : ℕ). (q + z) * p) one ∙ add-mul q 1 p ∙ ap (λ (z : ℕ). q * p + z) (one-mul p), omega arith)

  chosen_by : (o : Ordering) → Compared o (r * 2) p → Chosen (nearest q o)
  chosen_by Ordering.lt h = record { side = inl (refl, le_of_lt h); tie = λ (e : r * 2 ≡ p). absurd (omega arith) }
  chosen_by Ordering.eq h = record { side = at_tie h (eqb (q % 2) 0) refl; tie = λ (e : r * 2 ≡ p). omega arith }
  chosen_by Ordering.gt h = record { side = inr (suc-mul q p, le_of_lt h); tie = λ (e : r * 2 ≡ p). absurd (omega arith) }

  chosen : Chosen (closest n p)
  chosen = chosen_by (compare (r * 2) p) (compared (r * 2) p)

  abbrev k : ℕ
  k = closest n p

  whole : q * p + r ≡ n
  whole = div-add-mod' n p

  -- what lies at or below the multiple below n is no nearer; below it, farther
  below_by : Side k → apart n (k * p) ≤ r
  below_by (inl s) = let e = s.0 in let w = whole in omega arith
  below_by (inr s) = let e = s.0 in let l = s.1 in let w = whole in let m = mod-lt n P in omega arith

  pub below_farther : (u : ℕ) → u < q * p → apart n (k * p) < apart n u
  below_farther u h = let b = below_by chosen.side in let w = whole in omega arith

  -- a multiple lies at or below that one, or at the next one or above
  higher : (c : ℕ) → q < c → q * p + p ≤ c * p
  higher c h = subst (λ (z : ℕ). z ≤ c * p) (suc-mul q p) (mul-le-mul_right p h)

  pub multiples_no_nearer : (c : ℕ) → apart n (k * p) ≤ apart n (c * p)
  multiples_no_nearer c = go (leb c q) refl chosen.side
    where
      go : (b : Bool) → leb c q ≡ b → Side k → apart n (k * p) ≤ apart n (c * p)
      go true e s = let l = mul-le-mul_right p (leb-true c q e) in let b = below_by s in let w = whole in omega arith
      go false e (inl s) = let l = higher c (leb-false c q e) in let d = s.0 in let f = s.1 in let w = whole in omega arith
      go false e (inr s) = let l = higher c (leb-false c q e) in let d = s.0 in let w = whole in let m = mod-lt n P in omega arith

  -- n is at most half of p away
  pub half_away : apart n (k * p) * 2 ≤ p
  half_away = go chosen.side
    where
      go : Side k → apart n (k * p) * 2 ≤ p
      go (inl s) = let e = s.0 in let f = s.1 in let w = whole in omega arith
      go (inr s) = let e = s.0 in let f = s.1 in let w = whole in let m = mod-lt n P in omega arith

  -- another multiple is as near only at a tie
  tie_of : (c : ℕ) → apart n (c * p) ≡ apart n (k * p) → (c * p ≡ k * p → ⊥) → r * 2 ≡ p
  tie_of c e other = go (decide (eqb (r * 2) p))
    where
      by : (r * 2 ≡ p → ⊥) → (b : Bool) → leb c q ≡ b → Side k → ⊥
      by uneven true f (inl s) = let l = mul-le-mul_right p (leb-true c q f) in let d = s.0 in let w = whole in other (omega arith)
      by uneven true f (inr s) = let l = mul-le-mul_right p (leb-true c q f) in let d = s.0 in let g = lt_of_le-ne s.1 (λ z. uneven (sym z)) in let w = whole in let m = mod-lt n P in omega arith
      by uneven false f (inl s) = let l = higher c (leb-false c q f) in let d = s.0 in let g = lt_of_le-ne s.1 uneven in let w = whole in omega arith
      by uneven false f (inr s) = let l = higher c (leb-false c q f) in let d = s.0 in let w = whole in let m = mod-lt n P in other (omega arith)

      go : (eqb (r * 2) p ≡ true) ⊎ (eqb (r * 2) p ≡ false) → r * 2 ≡ p
      go (inl t) = eqb-true (r * 2) p t
      go (inr f) = absurd (by (eqb-false (r * 2) p f) (leb c q) refl chosen.side)

  pub as_near_even : (c : ℕ) → apart n (c * p) ≡ apart n (k * p) → (c * p ≡ k * p → ⊥) → (r * 2 ≡ p) × (k % 2 ≡ 0)
  as_near_even c e other = let t = tie_of c e other in (t, chosen.tie t)
