-- The float of a total is the nearest 32-bit float, at a tie the one whose last bit is even, and lies within 8 of the total; up to 2^24 it is the total.
-- In units it is a multiple of 2 ^ k, k being how many digits of the total are dropped. Every other float is such a multiple too, or lies below them all.
use mathlib.Core.Path.{◌≡◌, refl, sym, ap, ◌∙◌, subst}
use mathlib.Core.Bool.{Bool, true, false, ◌&&◌, true≢false}
use mathlib.Core.Logic.{◌⊎◌, inl, inr}
use Prim.Native.Nat.{ℕ, zero, suc, ◌+◌, ◌-◌, ◌*◌, ◌/◌, ◌%◌, ◌^◌, ◌≤◌, ◌<◌, compare}
use native.Mathlib.Nat.{le_trans, le_of_eq, le_of_lt, lt_irrefl, le_of_mul-le-mul_right, zero-lt-suc, lt_of_lt_of_le, lt_of_le_of_lt, lt_of_not-le, not-le_of_lt, eq-or-lt_of_le, zero-add, one-mul, mul-one, mul_assoc, mul-le-mul_right, eq_of_mul-eq-mul_right, mul-div_cancel, div-one, le-div_iff_mul-le}
use native.Mathlib.Omega.{arith}
use borrow.Author.Tests.{leb-true, leb-false, eqb-true, eqb-false}
use lib.IntN.{ℤ, pos, negsuc}
use lib.Dec.{T, leb, ltb, eqb, ltb→lt}
use lib.Pow.{pow-add, pow_pos, pow_mono, pow-lt, shl_lt}
use lib.Ieee.{Float, nan, inf, fin, binary32, up, down, size, round, fits, of_bits, to_bits, of_int}
use lib.Ieee.Digits.{back, size-lt, size-le, size_reaches}
use lib.Ieee.Fits.{and_l, and_r, down_pos, kept-lt, nearest-le, of_int-fits}
use lib.Ieee.Exact.{HasValue}
use lib.Ieee.Back.{round_whole}
use lib.Ieee.Nearest.{closest, nearest-ge}
use lib.Ieee.Scale.{grid, round_val}
use lib.Ieee.Bits.{of_bits-to_bits}
use Rattle.laws.proofs.BoundExact.{in_range_finite, finite_in_range, units_exact, bits_by_units, pow_le_back, fits_low, value_in_units}
use Rattle.laws.proofs.Rounding.{below_farther, multiples_no_nearer, half_away, as_near_even}
use Rattle.model.specs.Floats.{units, in_range, float_of, apart, off, NearestFloat}
use Rattle.model.specs.Path.{total_limit}

-- ---- digits

size_is : (g j : ℕ) → 2 ^ j ≤ g → g < 2 ^ suc j → size g ≡ suc j
size_is g j l h =
    let most = size-le g (suc j) h in
    let least = lt_of_not-le (λ (s : size g ≤ j). not-le_of_lt (lt_of_lt_of_le (size-lt g) (pow_mono s)) l) in
    omega arith

-- a float in range is fewer than 2 ^ 24 times some power of two, in units
few_digits : (s : Bool) (m : ℕ) (e : ℤ) → T (fits binary32 (fin s m e)) → m < 2 ^ 24
unfolding fits
few_digits s zero e h = pow_pos 24
few_digits s (suc m) e h =
    let A = eqb (suc m % 2) 1 && ltb (suc m) (2 ^ 24) in
    let B = leb (down e) (2 ^ 149) in
    ltb→lt (suc m) (2 ^ 24) (and_r (eqb (suc m % 2) 1) (ltb (suc m) (2 ^ 24)) (and_l A B (and_l (A && B) (ltb (suc m * up e) (2 ^ 128 * down e)) h)))

shifted : (s : Bool) (m : ℕ) (e : ℤ) (u : ℕ) → T (fits binary32 (fin s m e)) → u * down e ≡ m * up e * 2 ^ 149 → (j : ℕ) × (u ≡ m * 2 ^ j)
shifted s m (pos a) u f h = (a + 149, sym (mul-one u) ∙ h ∙ mul_assoc m (2 ^ a) (2 ^ 149) ∙ ap (λ (x : ℕ). m * x) (sym (pow-add 2 a 149)))
shifted s m (negsuc a) u f h =
    let l : suc a ≤ 149 = pow_le_back (suc a) 149 (fits_low s m (negsuc a) f) in
    let j = 149 - suc a in (
      j,
      eq_of_mul-eq-mul_right (2 ^ suc a) (pow_pos (suc a)) u (m * 2 ^ j)
          (h ∙ ap (λ (x : ℕ). x * 2 ^ 149) (mul-one m) ∙ ap (λ (x : ℕ). m * 2 ^ x) (sym (back 149 (suc a) l)) ∙ ap (λ (x : ℕ). m * x) (pow-add 2 j (suc a)) ∙ sym (mul_assoc m (2 ^ j) (2 ^ suc a))),
    )

-- so from 2 ^ (23 + k) on it is a multiple of 2 ^ k
multiple_of : (k m j : ℕ) → m < 2 ^ 24 → (2 ^ (23 + k) ≤ m * 2 ^ j) ⊎ (k ≡ 0) → (c : ℕ) × (m * 2 ^ j ≡ c * 2 ^ k)
multiple_of k m j few h = go (leb k j) refl
  where
    far : j < k → (2 ^ (23 + k) ≤ m * 2 ^ j) ⊎ (k ≡ 0) → ⊥
    far l (inl g) = not-le_of_lt (lt_of_lt_of_le (shl_lt 24 j few) (pow_mono (omega arith))) g
    far l (inr z) = omega arith

    go : (b : Bool) → leb k j ≡ b → (c : ℕ) × (m * 2 ^ j ≡ c * 2 ^ k)
    go true e = (m * 2 ^ (j - k), ap (λ (x : ℕ). m * 2 ^ x) (sym (back j k (leb-true k j e))) ∙ ap (λ (x : ℕ). m * x) (pow-add 2 (j - k) k) ∙ sym (mul_assoc m (2 ^ (j - k)) (2 ^ k)))
    go false e = absurd (far (leb-false k j e) h)

float_multiple : (k : ℕ) (y : Float) → T (fits binary32 y) → in_range y ≡ true → (2 ^ (23 + k) ≤ units y) ⊎ (k ≡ 0) → (c : ℕ) × (units y ≡ c * 2 ^ k)
float_multiple k y f r h =
    let x = units_exact y f r in
    let f' : T (fits binary32 (fin false x.0 x.1)) = subst (λ (z : Float). T (fits binary32 z)) x.2 f in
    let s = shifted false x.0 x.1 (units y) f' x.3 in
    let c = multiple_of k x.0 s.0 (few_digits false x.0 x.1 f') (subst (λ (u : ℕ). (2 ^ (23 + k) ≤ u) ⊎ (k ≡ 0)) s.1 h) in
    (c.0, s.1 ∙ c.1)

-- ---- the bits by the units

abbrev bits_of : ℕ → ℕ
bits_of u = (size u - 24) * 2 ^ 23 + u / 2 ^ (size u - 24)

bits_are : (x : Float) → in_range x ≡ true → to_bits binary32 x ≡ bits_of (units x)
bits_are x r =
    let z = in_range_finite x r in
    let y = fin false z.0 z.1 in
    let u = units y in
    ap (to_bits binary32) z.2
    ∙ bits_by_units false z.0 z.1
    ∙ ap (λ (a : ℕ). a + u / 2 ^ (size u - 24)) (zero-add ((size u - 24) * 2 ^ 23))
    ∙ ap (λ (v : Float). bits_of (units v)) (sym z.2)

same_units : (x y : Float) → T (fits binary32 x) → T (fits binary32 y) → in_range x ≡ true → in_range y ≡ true → units x ≡ units y → x ≡ y
same_units x y f g r s e = sym (of_bits-to_bits binary32 x f) ∙ ap (of_bits binary32) (bits_are x r ∙ ap bits_of e ∙ sym (bits_are y s)) ∙ of_bits-to_bits binary32 y g

-- an even number of 24 digits, or the first of 25, with zeros behind
even_bits : (a k : ℕ) → 2 ^ 23 ≤ a → a ≤ 2 ^ 24 → a % 2 ≡ 0 → bits_of (a * 2 ^ k) % 2 ≡ 0
even_bits a k least most even = go (eq-or-lt_of_le most)
  where
    by : (j m : ℕ) → size (a * 2 ^ k) - 24 ≡ j → a * 2 ^ k ≡ m * 2 ^ j → m % 2 ≡ 0 → bits_of (a * 2 ^ k) % 2 ≡ 0
    by j m s e z =
        let d : bits_of (a * 2 ^ k) ≡ j * 2 ^ 23 + m = ap (λ (i : ℕ). i * 2 ^ 23 + a * 2 ^ k / 2 ^ i) s ∙ ap (λ (u : ℕ). j * 2 ^ 23 + u / 2 ^ j) e ∙ ap (λ (u : ℕ). j * 2 ^ 23 + u) (mul-div_cancel m (pow_pos j)) in
        ap (λ (u : ℕ). u % 2) d ∙ (omega arith)

    go : (a ≡ 2 ^ 24) ⊎ (a < 2 ^ 24) → bits_of (a * 2 ^ k) % 2 ≡ 0
    go (inl e) =
        let g : a * 2 ^ k ≡ 2 ^ (24 + k) = ap (λ (u : ℕ). u * 2 ^ k) e ∙ sym (pow-add 2 24 k) in
        let s = size_is (a * 2 ^ k) (24 + k) (le_of_eq (sym g)) (subst (λ (u : ℕ). u < 2 ^ suc (24 + k)) (sym g) (pow-lt {i = 24 + k} {j = suc (24 + k)} (omega arith))) in
        let one_more : 24 + k ≡ 23 + (1 + k) = omega arith in
        by (1 + k) (2 ^ 23) (omega arith) (g ∙ ap (λ (i : ℕ). 2 ^ i) one_more ∙ pow-add 2 23 (1 + k)) refl
    go (inr l) =
        let g : 2 ^ (23 + k) ≤ a * 2 ^ k = subst (λ (u : ℕ). u ≤ a * 2 ^ k) (sym (pow-add 2 23 k)) (mul-le-mul_right (2 ^ k) least) in
        let next : 24 + k ≡ suc (23 + k) = omega arith in
        let s = size_is (a * 2 ^ k) (23 + k) g (subst (λ (i : ℕ). a * 2 ^ k < 2 ^ i) next (shl_lt 24 k l)) in
        by k a (omega arith) refl even

-- ---- the float of a total

value-units : (x : Float) (a : ℕ) → T (fits binary32 x) → HasValue x false a (2 ^ 149) → (units x ≡ a) × (in_range x ≡ true)
unfolding units
value-units nan a f v = absurd v
value-units (inf s) a f v = absurd v
value-units (fin true m e) a f v = absurd (true≢false v.0)
value-units (fin false m e) a f v = (ap (λ (b : ℕ). b / down e) v.1 ∙ mul-div_cancel a (down_pos e), finite_in_range m e f)

-- up to 2^24 the total itself
pub float_exact : (t : ℕ) → t ≤ 2 ^ 24 → units (float_of t) ≡ t * 2 ^ 149
unfolding float_of of_int
float_exact t h =
    let x = round binary32 false t 1 in
    (value-units x (t * 2 ^ 149) (of_int-fits binary32 (pos t)) (value_in_units x t (round_whole binary32 false t h))).0

module _ (t : ℕ) (h : t < 2 ^ 32) where
  abbrev n : ℕ
  n = t * 2 ^ 149

  abbrev k : ℕ
  k = size n - 24

  abbrev p : ℕ
  p = 2 ^ k

  abbrev q : ℕ
  q = n / p

  abbrev g : ℕ
  g = closest n p

  size_most : size n ≤ 181
  size_most = size-le n 181 (shl_lt 32 149 h)

  g_most : g ≤ 2 ^ 24
  g_most = le_trans (nearest-le q (compare (n % p * 2) p)) (kept-lt 24 n)

  grid_is : grid binary32 t 1 ≡ g * p
  grid_is = ap (λ (z : ℕ). closest n (1 * 2 ^ (size z - 24)) * 2 ^ (size z - 24)) (div-one n) ∙ ap (λ (z : ℕ). closest n z * p) (one-mul p)

  fine : g * p < 2 ^ 277
  fine =
      let s = size_most in
      lt_of_le_of_lt (mul-le-mul_right p g_most) (subst (λ (z : ℕ). z < 2 ^ 277) (pow-add 2 24 k) (pow-lt {i = 24 + k} {j = 277} (omega arith)))

  float_fits : T (fits binary32 (float_of t))
  unfolding float_of
  float_fits = of_int-fits binary32 (pos t)

  rounded : (units (float_of t) ≡ g * p) × (in_range (float_of t) ≡ true)
  unfolding float_of of_int
  rounded =
      value-units (float_of t) (g * p) float_fits
      (subst (λ (z : ℕ). HasValue (round binary32 false t 1) false z (2 ^ 149)) grid_is
      (round_val binary32 t 1 (subst (λ (z : ℕ). z < 2 ^ 277) (sym grid_is) fine)))

  -- where digits are dropped, 24 are kept
  full : 0 < k → 2 ^ 23 ≤ q
  full d = (le-div_iff_mul-le (pow_pos k)).1 (subst (λ (z : ℕ). z ≤ n) (pow-add 2 23 k) (size_reaches n (23 + k) (omega arith)))

  stands : (y : Float) → T (fits binary32 y) → in_range y ≡ true → (units y < q * p) ⊎ ((c : ℕ) × (units y ≡ c * p))
  stands y f r = go (leb (2 ^ (23 + k)) (units y)) refl (eqb k 0) refl
    where
      go : (b : Bool) → leb (2 ^ (23 + k)) (units y) ≡ b → (z : Bool) → eqb k 0 ≡ z → (units y < q * p) ⊎ ((c : ℕ) × (units y ≡ c * p))
      go true e z d = inr (float_multiple k y f r (inl (leb-true (2 ^ (23 + k)) (units y) e)))
      go false e true d = inr (float_multiple k y f r (inr (eqb-true k 0 d)))
      go false e false d =
          let none = eqb-false k 0 d in
          let l = full (omega arith) in
          inl (lt_of_lt_of_le (leb-false (2 ^ (23 + k)) (units y) e) (subst (λ (z : ℕ). z ≤ q * p) (sym (pow-add 2 23 k)) (mul-le-mul_right p l)))

  off-is : off t (float_of t) ≡ apart n (g * p)
  off-is = ap (apart n) rounded.0

  no_nearer : (y : Float) → T (fits binary32 y) → in_range y ≡ true → off t (float_of t) ≤ off t y
  no_nearer y f r = subst (λ (z : ℕ). z ≤ off t y) (sym off-is) (go (stands y f r))
    where
      go : (units y < q * p) ⊎ ((c : ℕ) × (units y ≡ c * p)) → apart n (g * p) ≤ off t y
      go (inl l) = le_of_lt (below_farther n p (pow_pos k) (units y) l)
      go (inr c) = subst (λ (z : ℕ). apart n (g * p) ≤ apart n z) (sym c.1) (multiples_no_nearer n p (pow_pos k) c.0)

  -- at a tie some digit is dropped
  even_at_tie : n % p * 2 ≡ p → g % 2 ≡ 0 → to_bits binary32 (float_of t) % 2 ≡ 0
  even_at_tie tie even =
      ap (λ (z : ℕ). z % 2) (bits_are (float_of t) rounded.1 ∙ ap bits_of rounded.0)
      ∙ even_bits g k (le_trans (full (dropped k refl)) (nearest-ge q (compare (n % p * 2) p))) g_most even
    where
      dropped : (j : ℕ) → k ≡ j → 0 < k
      dropped zero e = let one : p ≡ 1 = ap (λ (z : ℕ). 2 ^ z) e in absurd (omega arith)
      dropped (suc j) e = omega arith

  ties_even : (y : Float) → T (fits binary32 y) → in_range y ≡ true → off t y ≡ off t (float_of t) → (y ≡ float_of t → ⊥) → to_bits binary32 (float_of t) % 2 ≡ 0
  ties_even y f r same other = go (stands y f r)
    where
      as_near : off t y ≡ apart n (g * p)
      as_near = same ∙ off-is

      go : (units y < q * p) ⊎ ((c : ℕ) × (units y ≡ c * p)) → to_bits binary32 (float_of t) % 2 ≡ 0
      go (inl l) = absurd (lt_irrefl (apart n (g * p)) (subst (λ (z : ℕ). apart n (g * p) < z) as_near (below_farther n p (pow_pos k) (units y) l)))
      go (inr c) =
          let e = as_near_even n p (pow_pos k) c.0 (ap (apart n) (sym c.1) ∙ as_near)
          (λ (d : c.0 * p ≡ g * p). other (same_units y (float_of t) f float_fits r rounded.1 (c.1 ∙ d ∙ sym rounded.0)))
          in
          even_at_tie e.0 e.1

  pub float_nearest : NearestFloat t (float_of t)
  float_nearest = record { range = rounded.1; nearest = no_nearer; even = ties_even }

-- within 8 of the total
pub float_within_eight : (t : ℕ) → t ≤ total_limit → off t (float_of t) ≤ 8 * 2 ^ 149
float_within_eight t h =
    let l : t < 2 ^ 32 = omega arith in
    let n = t * 2 ^ 149 in
    let few : t < 2 ^ 28 = omega arith in
    let s : size n ≤ 177 = size-le n 177 (shl_lt 28 149 few) in
    let w : 2 ^ (size n - 24) ≤ 2 ^ 153 = pow_mono {i = size n - 24} {j = 153} (omega arith) in
    let half = half_away n (2 ^ (size n - 24)) (pow_pos (size n - 24)) in
    subst (λ (z : ℕ). z ≤ 8 * 2 ^ 149) (sym (off-is t l)) (le_of_mul-le-mul_right {n = 8 * 2 ^ 149} {k = 2} (le_trans half w) (zero-lt-suc 1))
