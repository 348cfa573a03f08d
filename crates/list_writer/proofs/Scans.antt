-- A scan from the left: what the element at hand says of `all_different` of the elements from it on.
-- By taking the first element off the rest.
use mathlib.Core.Path.{◌≡◌, refl, ap}
use mathlib.Core.Bool.{true, false, not, ◌&&◌}
use mathlib.Core.List.{List, [], ◌∷◌}
use Prim.Native.Nat.{ℕ, suc, ◌+◌, ◌≤◌, ◌<◌}
use native.Mathlib.Numerals.{add-one}
use lib.Dec.{eqb}
use lib.ListN.{length, get_or, drop, drop_of_length-le}
use lib.Seq.{drop-cons}
use Rattle.std.specs.List.{list_any}
use Rattle.model.specs.Lists.{among, all_different}
use Rattle.laws.proofs.Different.{eqb_sym}

module _ (s : List ℕ) (i : ℕ) (h : i < length s) where
  different_step : all_different (drop i s) ≡ not (among (get_or s i 0) (drop (suc i) s)) && all_different (drop (suc i) s)
  unfolding all_different
  different_step = ap all_different (drop-cons s i 0 h)

  pub different_hit : among (get_or s i 0) (drop (i + 1) s) ≡ true → not (all_different (drop i s)) ≡ true
  different_hit e = rw (different_step, ← add-one i, e) refl

  pub different_miss : among (get_or s i 0) (drop (i + 1) s) ≡ false → all_different (drop i s) ≡ all_different (drop (i + 1) s)
  different_miss e = rw (different_step, ← add-one i, e) refl

module _ (s : List ℕ) (i : ℕ) (h : length s ≤ i) where
  pub different-end : all_different (drop i s) ≡ true
  unfolding all_different
  different-end = rw (drop_of_length-le s h) refl

-- std's look-up compares the element with what is sought
pub among_by : (x : ℕ) (xs : List ℕ) → list_any (λ (y : ℕ). eqb y x) xs ≡ among x xs
unfolding among
among_by x [] = refl
among_by x (y ∷ ys) = rw (eqb_sym y x, among_by x ys) refl
