-- The machine's comparisons of 32-bit floats in range, and at 64 bits of a total and such a float, are those of their exact values in units of 2^-149.
-- A float in range is finite and has no sign, and 2^-149 divides it, so that it is a whole number of units. Two such fractions are then compared over one denominator.
use mathlib.Core.Path.{◌≡◌, refl, sym, ap, ap₂, ◌∙◌, subst}
use mathlib.Core.Bool.{Bool, true, false, not, ◌&&◌, ◌||◌, cond, true≢false, false≢true}
use Prim.Native.Nat.{ℕ, zero, suc, ◌+◌, ◌-◌, ◌*◌, ◌/◌, ◌%◌, ◌^◌, ◌≤◌, ◌<◌, ◌∣◌}
use native.Mathlib.Nat.{le_of_eq, le_of_lt, le_of_suc-le-suc, lt_irrefl, lt_of_lt_of_le, lt_of_not-le, not-le_of_lt, zero-mul, one-mul, mul-one, mul-pos, mul_right_comm, mul-le-mul_right, mul-lt-mul_of_pos_right, le_of_mul-le-mul_right, div-mul_cancel, div-lt_iff_lt-mul, one-dvd, dvd-mul_left, dvd-mul_left_of_dvd, mod-eq_of_lt}
use native.Mathlib.Omega.{arith}
use borrow.Author.Tests.{ltb-true, ltb-false, leb-true, leb-false, eqb-true, eqb-false, lt-ltb, le-ltb, le-leb, lt-leb}
use lib.IntN.{ℤ, pos, negsuc}
use lib.Dec.{T, leb, ltb, eqb, leb→le, ltb→lt, eqb→eq, eqb_refl}
use lib.Arith.{lt_of_le-ne}
use lib.Pow.{pow-add, pow_pos, pow-lt}
use lib.Ieee.{Float, nan, inf, fin, binary32, binary64, up, down, size, round, fits, is_nan, of_bits, to_bits, nan_bits, of_int, le, ne}
use lib.Ieee.Digits.{back, size-le}
use lib.Ieee.Fits.{and_i, and_l, and_r, down_pos, kept-lt, fits_widens}
use lib.Ieee.Exact.{HasValue}
use lib.Ieee.Back.{round_whole}
use lib.Ieee.Bits.{to_bits-of_bits, of_bits-fits, nan_bits_is, nan_bits_above}
use lib.Ieee.Order.{transfer}
use Rattle.laws.proofs.Tests.{true_T, T_true, false_T, and_both, both_and}
use Rattle.model.specs.Floats.{units, in_range, at_least, at_most}

-- ---- which floats are in range

-- the bits of a finite float, by its units
pub bits_by_units : (s : Bool) (m : ℕ) (e : ℤ) → to_bits binary32 (fin s m e) ≡ cond s 0x80000000 0 + (size (units (fin s m e)) - 24) * 2 ^ 23 + units (fin s m e) / 2 ^ (size (units (fin s m e)) - 24)
unfolding units to_bits
bits_by_units s m e = refl

sign_too_high : (a b c : ℕ) → a ≡ 0x80000000 + b + c → a < 0x7f800000 → ⊥
sign_too_high a b c p h = omega arith

-- what is in range is finite and has no sign
pub in_range_finite : (x : Float) → in_range x ≡ true → (m : ℕ) × (e : ℤ) × (x ≡ fin false m e)
unfolding in_range is_nan to_bits
in_range_finite nan h = absurd (false≢true h)
in_range_finite (inf true) h = absurd (false≢true h)
in_range_finite (inf false) h = absurd (false≢true h)
in_range_finite (fin true m e) h =
    let n = units (fin true m e) in
    absurd (sign_too_high (to_bits binary32 (fin true m e)) ((size n - 24) * 2 ^ 23) (n / 2 ^ (size n - 24)) (bits_by_units true m e) (ltb-true (to_bits binary32 (fin true m e)) 0x7f800000 h))
in_range_finite (fin false m e) h = (m, e, refl)

-- what a value that fits says of its exponent and of its size
pub fits_low : (s : Bool) (m : ℕ) (e : ℤ) → T (fits binary32 (fin s m e)) → down e ≤ 2 ^ 149
unfolding fits
fits_low s zero (pos k) h = pow_pos 149
fits_low s zero (negsuc k) h = subst (λ (d : ℕ). d ≤ 2 ^ 149) (sym (sym (one-mul (2 ^ suc k)) ∙ eqb→eq (1 * 2 ^ suc k) 1 h)) (pow_pos 149)
fits_low s (suc m) e h =
    let A = eqb (suc m % 2) 1 && ltb (suc m) (2 ^ 24) in
    let B = leb (down e) (2 ^ 149) in
    leb→le (down e) (2 ^ 149) (and_r A B (and_l (A && B) (ltb (suc m * up e) (2 ^ 128 * down e)) h))

fits-high : (s : Bool) (m : ℕ) (e : ℤ) → T (fits binary32 (fin s m e)) → m * up e < 2 ^ 128 * down e
unfolding fits
fits-high s zero e h = subst (λ (a : ℕ). a < 2 ^ 128 * down e) (sym (zero-mul (up e))) (mul-pos (pow_pos 128) (down_pos e))
fits-high s (suc m) e h =
    ltb→lt (suc m * up e) (2 ^ 128 * down e) (and_r (eqb (suc m % 2) 1 && ltb (suc m) (2 ^ 24) && leb (down e) (2 ^ 149)) (ltb (suc m * up e) (2 ^ 128 * down e)) h)

units_lt : (s : Bool) (m : ℕ) (e : ℤ) → T (fits binary32 (fin s m e)) → units (fin s m e) < 2 ^ 277
unfolding units
units_lt s m e h =
    (div-lt_iff_lt-mul (down_pos e)).1
    (subst (λ (a : ℕ). m * up e * 2 ^ 149 < a) (mul_right_comm (2 ^ 128) (down e) (2 ^ 149)) (mul-lt-mul_of_pos_right (fits-high s m e h) (pow_pos 149)))

finite_bits_lt : (a z q : ℕ) → a ≡ 0 + (z - 24) * 2 ^ 23 + q → z ≤ 277 → q < 2 ^ 24 → a < 0x7f800000
finite_bits_lt a z q p h k = omega arith

-- what is finite and has no sign is in range
pub finite_in_range : (m : ℕ) (e : ℤ) → T (fits binary32 (fin false m e)) → in_range (fin false m e) ≡ true
unfolding in_range is_nan
finite_in_range m e h =
    let n = units (fin false m e) in
    lt-ltb (to_bits binary32 (fin false m e)) 0x7f800000
    (finite_bits_lt (to_bits binary32 (fin false m e)) (size n) (n / 2 ^ (size n - 24)) (bits_by_units false m e) (size-le n 277 (units_lt false m e h)) (kept-lt 24 n))

-- ---- the range by the bits

nan_or_not : (x : Float) → ne x x ≡ is_nan x
unfolding is_nan ne
nan_or_not nan = refl
nan_or_not (inf true) = refl
nan_or_not (inf false) = refl
nan_or_not (fin true m e) = ap (λ (b : Bool). not (b && true)) (T_true (eqb (m * up e * down e) (m * up e * down e)) (eqb_refl (m * up e * down e)))
nan_or_not (fin false m e) = ap (λ (b : Bool). not (b && true)) (T_true (eqb (m * up e * down e) (m * up e * down e)) (eqb_refl (m * up e * down e)))

-- the range as a program tests it: first `x != x`, then the bits
pub in_range_test : (x : Float) → in_range x ≡ (not (ne x x) && ltb (to_bits binary32 x) 0x7f800000)
unfolding in_range
in_range_test x = ap (λ (b : Bool). not b && ltb (to_bits binary32 x) 0x7f800000) (sym (nan_or_not x))

pub nan_out_of_range : (x : Float) → ne x x ≡ true → in_range x ≡ false
nan_out_of_range x p = in_range_test x ∙ ap (λ (b : Bool). not b && ltb (to_bits binary32 x) 0x7f800000) p

pub in_range_by_bits : (x : Float) → ne x x ≡ false → in_range x ≡ ltb (to_bits binary32 x) 0x7f800000
in_range_by_bits x p = in_range_test x ∙ ap (λ (b : Bool). not b && ltb (to_bits binary32 x) 0x7f800000) p

-- `f32::to_bits` is defined at what passed `x != x`, and at what is in range; there the bits lie below 7F800000
pub to_bits_defined : (x : Float) → ne x x ≡ false → T (not (is_nan x))
to_bits_defined x p = false_T (sym (nan_or_not x) ∙ p)

pub in_range_says : (x : Float) → in_range x ≡ true → T (not (is_nan x)) × (to_bits binary32 x < 0x7f800000)
unfolding in_range
in_range_says x r =
    let t = and_both (not (is_nan x)) (ltb (to_bits binary32 x) 0x7f800000) r in
    (true_T t.0, ltb-true (to_bits binary32 x) 0x7f800000 t.1)

-- `f32::from_bits` is defined at a pattern below 7F800000
pub from_bits_defined : (n : ℕ) → n < 0x7f800000 → T (not (nan_bits binary32 n))
from_bits_defined n h = false_T (nan_bits_above binary32 n ∙ ap (ltb 0x7f800000) (mod-eq_of_lt {n = n} {m = 0x80000000} (omega arith)) ∙ le-ltb 0x7f800000 n (le_of_lt h))

-- and reads a float in range there, whose bits are the pattern
pub in_range_bits : (n : ℕ) → n < 0x7f800000 → (in_range (of_bits binary32 n) ≡ true) × T (fits binary32 (of_bits binary32 n)) × (to_bits binary32 (of_bits binary32 n) ≡ n)
unfolding in_range
in_range_bits n h =
    let real : T (not (is_nan (of_bits binary32 n))) = subst (λ (b : Bool). T (not b)) (nan_bits_is binary32 n) (from_bits_defined n h) in
    let written : to_bits binary32 (of_bits binary32 n) ≡ n = to_bits-of_bits binary32 n (omega arith) real in (
      both_and (not (is_nan (of_bits binary32 n))) (ltb (to_bits binary32 (of_bits binary32 n)) 0x7f800000) (T_true (not (is_nan (of_bits binary32 n))) real) (ap (λ (k : ℕ). ltb k 0x7f800000) written ∙ lt-ltb n 0x7f800000 h),
      of_bits-fits binary32 n,
      written,
    )

-- ---- the exact value

pub pow_le_back : (a l : ℕ) → 2 ^ a ≤ 2 ^ l → a ≤ l
pow_le_back a l h = le_of_suc-le-suc (lt_of_not-le (λ (g : suc l ≤ a). lt_irrefl (2 ^ l) (lt_of_lt_of_le (pow-lt g) h)))

-- 2 ^ -l divides a fraction whose denominator is at most 2 ^ l
whole-units : (l m : ℕ) (e : ℤ) → down e ≤ 2 ^ l → m * up e * 2 ^ l / down e * down e ≡ m * up e * 2 ^ l
whole-units l m (pos k) h = div-mul_cancel 1 (one-dvd (m * 2 ^ k * 2 ^ l))
whole-units l m (negsuc k) h =
    div-mul_cancel (2 ^ suc k)
    (dvd-mul_left_of_dvd (2 ^ suc k)
    (subst (λ (p : ℕ). 2 ^ suc k ∣ p) (sym (pow-add 2 (l - suc k) (suc k)) ∙ ap (λ (j : ℕ). 2 ^ j) (back l (suc k) (pow_le_back (suc k) l h))) (dvd-mul_left (2 ^ suc k) (2 ^ (l - suc k))))
    (m * 1))

units_of_fin : (m : ℕ) (e : ℤ) → T (fits binary32 (fin false m e)) → units (fin false m e) * down e ≡ m * up e * 2 ^ 149
unfolding units
units_of_fin m e h = whole-units 149 m e (fits_low false m e h)

-- a float in range is m * 2 ^ e, and the division in `units` leaves nothing
pub units_exact : (x : Float) → T (fits binary32 x) → in_range x ≡ true → (m : ℕ) × (e : ℤ) × (x ≡ fin false m e) × (units x * down e ≡ m * up e * 2 ^ 149)
units_exact x f r =
    let z = in_range_finite x r in
    let f' : T (fits binary32 (fin false z.0 z.1)) = subst (λ (y : Float). T (fits binary32 y)) z.2 f in
    (z.0, z.1, z.2, ap (λ (y : Float). units y * down z.1) z.2 ∙ units_of_fin z.0 z.1 f')

-- ---- comparisons

leb_same : (a b c d : ℕ) → (a ≤ b → c ≤ d) → (c ≤ d → a ≤ b) → leb a b ≡ leb c d
leb_same a b c d p q = go (leb c d) refl
  where
    go : (t : Bool) → leb c d ≡ t → leb a b ≡ t
    go true e = le-leb a b (q (leb-true c d e))
    go false e = lt-leb a b (lt_of_not-le (λ h. not-le_of_lt (leb-false c d e) (p h)))

below_or_level : (a b : ℕ) → (ltb a b || (eqb a b && true)) ≡ leb a b
below_or_level a b = go (ltb a b) (eqb a b) refl refl
  where
    go : (x y : Bool) → ltb a b ≡ x → eqb a b ≡ y → (x || (y && true)) ≡ leb a b
    go true y p q = sym (le-leb a b (le_of_lt (ltb-true a b p)))
    go false true p q = sym (le-leb a b (le_of_eq (eqb-true a b q)))
    go false false p q = sym (lt-leb a b (lt_of_le-ne (ltb-false a b p) (λ e. eqb-false a b q (sym e))))

-- two fractions that are a / c and b / c
cross : (m n : ℕ) (e d : ℤ) (a b c : ℕ) → 0 < c → m * up e * c ≡ a * down e → n * up d * c ≡ b * down d → leb (m * up e * down d) (n * up d * down e) ≡ leb a b
cross m n e d a b c C p q =
    leb_same (m * up e * down d) (n * up d * down e) a b
    (λ h. le_of_mul-le-mul_right (transfer a b c c (m * up e) (n * up d) (down e) (down d) (down_pos e) (down_pos d) (sym p) (sym q) h) C)
    (λ h. transfer (m * up e) (n * up d) (down e) (down d) a b c c C C p q (mul-le-mul_right c h))

le_cross : (m n : ℕ) (e d : ℤ) → le (fin false m e) (fin false n d) ≡ leb (m * up e * down d) (n * up d * down e)
unfolding le
le_cross m n e d = below_or_level (m * up e * down d) (n * up d * down e)

-- the machine's `<=` and `<` are those of the exact values
pub units-order : (x y : Float) → T (fits binary32 x) → T (fits binary32 y) → in_range x ≡ true → in_range y ≡ true → le x y ≡ leb (units x) (units y)
units-order x y f g r s =
    let p = units_exact x f r in
    let q = units_exact y g s in
    ap₂ le p.2 q.2 ∙ le_cross p.0 q.0 p.1 q.1 ∙ cross p.0 q.0 p.1 q.1 (units x) (units y) (2 ^ 149) (pow_pos 149) (sym p.3) (sym q.3)

-- the machine's test that a bandwidth is at least the one asked for
pub bandwidth_exact : (x y : Float) → T (fits binary32 x) → T (fits binary32 y) → in_range x ≡ true → in_range y ≡ true → le x y ≡ at_least x y
unfolding at_least
bandwidth_exact = units-order

-- ---- a total and the bound

-- a float in range is a 64-bit float too, so its cast is defined
pub widens : (x : Float) → T (fits binary32 x) → in_range x ≡ true → T (fits binary64 x && not (is_nan x))
widens x f r = and_i (fits binary64 x) (not (is_nan x)) (fits_widens x f) (in_range_says x r).0

-- what is a total exactly, in units; and beside a float in range
pub value_in_units : (x : Float) (t : ℕ) → HasValue x false t 1 → HasValue x false (t * 2 ^ 149) (2 ^ 149)
value_in_units nan t v = absurd v
value_in_units (inf s) t v = absurd v
value_in_units (fin s m e) t v = (v.0, ap (λ (a : ℕ). a * 2 ^ 149) (sym (mul-one (m * up e)) ∙ v.1) ∙ mul_right_comm t (down e) (2 ^ 149))

total-order : (x : Float) (t : ℕ) (b : Float) → HasValue x false t 1 → T (fits binary32 b) → in_range b ≡ true → le x b ≡ leb (t * 2 ^ 149) (units b)
total-order nan t b v f r = absurd v
total-order (inf s) t b v f r = absurd v
total-order (fin true m e) t b v f r = absurd (true≢false v.0)
total-order (fin false m e) t b v f r =
    let z = units_exact b f r in
    ap (le (fin false m e)) z.2 ∙ le_cross m z.0 e z.1 ∙ cross m z.0 e z.1 (t * 2 ^ 149) (units b) (2 ^ 149) (pow_pos 149) (value_in_units (fin false m e) t v).1 (sym z.3)

-- the machine's test at 64 bits that a total is at most a bound: both are 64-bit floats exactly
pub bound_exact : (t : ℕ) (b : Float) → t < 2 ^ 32 → T (fits binary32 b) → in_range b ≡ true → le (of_int binary64 (pos t)) b ≡ at_most t b
unfolding at_most of_int
bound_exact t b h f r = total-order (round binary64 false t 1) t b (round_whole binary64 false t (omega arith)) f r
