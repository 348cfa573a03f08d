-- Numbers of two and four bytes written out, and comparing bytes from the left a word at a time: the words' numbers decide, as digits of a larger base.
use mathlib.Core.Path.{◌≡◌, refl, sym, ap, subst}
use mathlib.Core.Bool.{Bool, true, false, ◌&&◌, ◌||◌}
use mathlib.Core.List.{List, ◌∷◌}
use Prim.Native.Nat.{ℕ, zero, suc, ◌+◌, ◌*◌, ◌^◌, ◌<◌, ◌≤◌}
use native.Mathlib.Nat.{add-zero, zero-add, add-suc, suc-add, suc-mul, mul-le-mul_right}
use native.Mathlib.Numerals.{add-one, towards_suc}
use native.Mathlib.Omega.{arith}
use lib.Dec.{eqb, ltb}
use lib.ListN.{length, get_or, take}
use lib.Arith.{lt_of_le-ne}
use lib.Seq.{drop-cons}
use borrow.Author.Tests.{ltb-true, ltb-false, eqb-true, eqb-false, eq-eqb, ne_eqb}
use Rattle.model.specs.Bytes.{number, part}
use Rattle.model.specs.Lists.{below}
use Rattle.laws.proofs.BigEndian.{number_bound, digits_ltb}

-- two and four bytes, written out
pub number_two : (s : List ℕ) (at : ℕ) → number 2 s at ≡ get_or s at 0 * 256 + get_or s (at + 1) 0
unfolding number
number_two s at = rw add-one (omega arith)

pub number_four : (s : List ℕ) (at : ℕ) → number 4 s at ≡ get_or s at 0 * 16777216 + (get_or s (at + 1) 0 * 65536 + (get_or s (at + 2) 0 * 256 + get_or s (at + 3) 0))
unfolding number
number_four s at = simp towards_suc (omega arith)

-- ---- comparing from the left, a word at a time

eqb_add_left : (c p q : ℕ) → eqb (c + p) (c + q) ≡ eqb p q
eqb_add_left c p q = go (eqb p q) refl
  where
    go : (t : Bool) → eqb p q ≡ t → eqb (c + p) (c + q) ≡ t
    go true e = eq-eqb (c + p) (c + q) (omega (arith, eqb-true p q e))
    go false e = ne_eqb (c + p) (c + q) (λ (h : c + p ≡ c + q). eqb-false p q e (omega arith))

digit_less : (x y w p q : ℕ) → p < w → x < y → x * w + p < y * w + q
digit_less x y w p q hp h = omega (arith, mul-le-mul_right w h, suc-mul x w)

eqb_digit : (x y w p q : ℕ) → p < w → q < w → eqb (x * w + p) (y * w + q) ≡ eqb x y && eqb p q
eqb_digit x y w p q hp hq = go (ltb x y) (eqb x y) refl refl
  where
    go : (t u : Bool) → ltb x y ≡ t → eqb x y ≡ u → eqb (x * w + p) (y * w + q) ≡ u && eqb p q
    go t true e f =
        subst (λ (k : ℕ). eqb (x * w + p) (k * w + q) ≡ eqb p q) (eqb-true x y f) (eqb_add_left (x * w) p q)
    go true false e f =
        let less : x * w + p < y * w + q = digit_less x y w p q hp (ltb-true x y e) in
        ne_eqb (x * w + p) (y * w + q) (omega arith)
    go false false e f =
        let above : y < x = lt_of_le-ne (ltb-false x y e) (λ (h : y ≡ x). eqb-false x y f (sym h)) in
        let more : y * w + q < x * w + p = digit_less y x w q p hq above in
        ne_eqb (x * w + p) (y * w + q) (omega arith)

regroup : (l e k f r : Bool) → l || (e && (k || (f && r))) ≡ (l || (e && k)) || ((e && f) && r)
regroup true e k f r = refl
regroup false true k f r = refl
regroup false false k f r = refl

-- the first byte of a part
pub part_cons : (s : List ℕ) (at n : ℕ) → at < length s → part s at (suc n) ≡ get_or s at 0 ∷ part s (suc at) n
part_cons s at n h = ap (take (suc n)) (drop-cons s at 0 h)

-- n + m bytes are less than others where the number of the first n is, or is the same and the m after them are less
pub below_word : (n m : ℕ) (s : List ℕ) (a b : ℕ) → ((i : ℕ) → get_or s i 0 < 256) → a + (n + m) ≤ length s → b + (n + m) ≤ length s
    → below (part s a (n + m)) (part s b (n + m))
    ≡ ltb (number n s a) (number n s b) || (eqb (number n s a) (number n s b) && below (part s (a + n) m) (part s (b + n) m))
unfolding number below
below_word zero m s a b bytes ha hb = rw (zero-add, add-zero a, add-zero b) refl
below_word (suc n) m s a b bytes ha hb =
    let more : below (part s (suc a) (n + m)) (part s (suc b) (n + m)) ≡ ltb (number n s (suc a)) (number n s (suc b)) || (eqb (number n s (suc a)) (number n s (suc b)) && below (part s (suc a + n) m) (part s (suc b + n) m)) =
    below_word n m s (suc a) (suc b) bytes (omega arith) (omega arith) in
    let hp : number n s (suc a) < 256 ^ n = number_bound n s (suc a) bytes in
    let hq : number n s (suc b) < 256 ^ n = number_bound n s (suc b) bytes in
    rw (
      suc-add n m,
      part_cons s a (n + m) (omega arith),
      part_cons s b (n + m) (omega arith),
      more,
      add-suc a n,
      add-suc b n,
      ← suc-add a n,
      ← suc-add b n,
      digits_ltb (256 ^ n) (get_or s a 0) (get_or s b 0) (number n s (suc a)) (number n s (suc b)) hp hq,
      eqb_digit (get_or s a 0) (get_or s b 0) (256 ^ n) (number n s (suc a)) (number n s (suc b)) hp hq,
    )
    (regroup (ltb (get_or s a 0) (get_or s b 0)) (eqb (get_or s a 0) (get_or s b 0)) (ltb (number n s (suc a)) (number n s (suc b))) (eqb (number n s (suc a)) (number n s (suc b)))
    (below (part s (suc a + n) m) (part s (suc b + n) m)))
