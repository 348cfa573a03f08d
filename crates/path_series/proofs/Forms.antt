-- The tests of a series' arguments: sizes that add up, one at a time, and what well formed arguments are. From the library's facts on `drop`.
use Prim.Native.Nat.{ℕ, ◌+◌, ◌*◌, ◌/◌, ◌≤◌, ◌<◌}
use native.Mathlib.Numerals.{add-one}
use native.Mathlib.Omega.{arith}
use mathlib.Core.Path.{◌≡◌, refl, sym, ap, ◌∙◌}
use mathlib.Core.Bool.{Bool, true, false, not, ◌||◌}
use mathlib.Core.List.{List}
use lib.Dec.{eqb, ltb}
use lib.ListN.{length, get_or, drop, drop_of_length-le}
use lib.Seq.{drop-cons}
use borrow.Author.Tests.{eq-eqb, ne_eqb, lt-ltb, le-ltb, eqb-true, eqb-false, ltb-true, ltb-false}
use Rattle.model.specs.Lists.{any, sum}
use Rattle.laws.proofs.Tests.{or_left, or_right, or_neither}
use Rattle.path_series.specs.Calls.{unknown, malformed}

-- ---- sizes

module _ (sizes : List ℕ) (i : ℕ) where
  pub sum_here : i < length sizes → sum (drop i sizes) ≡ get_or sizes i 0 + sum (drop (i + 1) sizes)
  unfolding sum
  sum_here h = rw add-one (ap sum (drop-cons sizes i 0 h))

  pub sum_none : length sizes ≤ i → sum (drop i sizes) ≡ 0
  unfolding sum
  sum_none h = ap sum (drop_of_length-le sizes h)

-- nothing is left of the whole exactly when the sum is the whole
pub left_over : (s left whole : ℕ) → s + left ≡ whole → eqb left 0 ≡ eqb s whole
left_over s left whole h = go (eqb left 0) refl
  where
    go : (b : Bool) → eqb left 0 ≡ b → b ≡ eqb s whole
    go true e = let z = eqb-true left 0 e in sym (eq-eqb s whole (omega arith))
    go false e = let z = eqb-false left 0 e in sym (ne_eqb s whole (λ (x : s ≡ whole). z (omega arith)))

-- ---- the four tests

-- what well formed arguments are
pub record Formed (kinds sizes : List ℕ) (buffers numbers : ℕ) : Type 0 where
  pub known : any unknown kinds ≡ false
  pub as_many : length kinds ≡ length sizes
  pub whole : sum sizes ≡ buffers
  pub five : 5 * length kinds ≤ numbers

not_left : (b : Bool) → not b ≡ false → b ≡ true
not_left true e = refl
not_left false e = sym e

module _ (kinds sizes : List ℕ) (buffers numbers : ℕ) where
  abbrev counts : Bool
  counts = not (eqb (length kinds) (length sizes))

  abbrev sums : Bool
  sums = not (eqb (sum sizes) buffers)

  abbrev few : Bool
  few = ltb numbers (5 * length kinds)

  pub formed : malformed kinds sizes buffers numbers ≡ false → Formed kinds sizes buffers numbers
  unfolding malformed
  formed e =
      let a = or_neither (any unknown kinds) (counts || (sums || few)) e in
      let b = or_neither counts (sums || few) a.1 in
      let d = or_neither sums few b.1 in
      record {
        known = a.0;
        as_many = eqb-true (length kinds) (length sizes) (not_left (eqb (length kinds) (length sizes)) b.0);
        whole = eqb-true (sum sizes) buffers (not_left (eqb (sum sizes) buffers) d.0);
        five = ltb-false numbers (5 * length kinds) d.1;
      }

  pub by_kind : any unknown kinds ≡ true → malformed kinds sizes buffers numbers ≡ true
  unfolding malformed
  by_kind e = or_left (any unknown kinds) (counts || (sums || few)) e

  pub by_counts : (length kinds ≡ length sizes → ⊥) → malformed kinds sizes buffers numbers ≡ true
  unfolding malformed
  by_counts e = or_right (any unknown kinds) (counts || (sums || few)) (or_left counts (sums || few) (ap not (ne_eqb (length kinds) (length sizes) e)))

  pub by_sums : eqb (sum sizes) buffers ≡ false → malformed kinds sizes buffers numbers ≡ true
  unfolding malformed
  by_sums e = or_right (any unknown kinds) (counts || (sums || few)) (or_right counts (sums || few) (or_left sums few (ap not e)))

  -- the first three passed: the last decides
  pub by_numbers : any unknown kinds ≡ false → length kinds ≡ length sizes → eqb (sum sizes) buffers ≡ true
      → malformed kinds sizes buffers numbers ≡ ltb (numbers / 5) (length kinds)
  unfolding malformed
  by_numbers a b d =
      ap (λ (x : Bool). x || (counts || (sums || few))) a
      ∙ ap (λ (x : Bool). not x || (sums || few)) (eq-eqb (length kinds) (length sizes) b)
      ∙ ap (λ (x : Bool). not x || few) d
      ∙ fives numbers (length kinds) (ltb (numbers / 5) (length kinds)) refl
    where
      fives : (n k : ℕ) (b : Bool) → ltb (n / 5) k ≡ b → ltb n (5 * k) ≡ b
      fives n k true e = let l = ltb-true (n / 5) k e in lt-ltb n (5 * k) (omega arith)
      fives n k false e = let l = ltb-false (n / 5) k e in le-ltb n (5 * k) (omega arith)
