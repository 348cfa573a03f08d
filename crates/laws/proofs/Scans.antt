-- A scan from the left for a number that passes a test: what the number at hand says of those from it on. By taking the first element off the rest.
use mathlib.Core.Path.{◌≡◌, refl, ap}
use mathlib.Core.Bool.{Bool, true, false, ◌||◌}
use mathlib.Core.List.{List}
use Prim.Native.Nat.{ℕ, suc, ◌+◌, ◌≤◌, ◌<◌}
use native.Mathlib.Numerals.{add-one}
use lib.ListN.{length, get_or, drop, drop_of_length-le}
use lib.Seq.{drop-cons}
use Rattle.model.specs.Lists.{any}

module _ (s : List ℕ) (i : ℕ) (h : i < length s) (p : ℕ → Bool) where
  any_step : any p (drop i s) ≡ p (get_or s i 0) || any p (drop (suc i) s)
  any_step = ap (any p) (drop-cons s i 0 h)

  pub any-hit : p (get_or s i 0) ≡ true → any p (drop i s) ≡ true
  any-hit e = rw (any_step, e) refl

  pub any_miss : p (get_or s i 0) ≡ false → any p (drop i s) ≡ any p (drop (i + 1) s)
  any_miss e = rw (any_step, e, add-one i) refl

pub any-end : (s : List ℕ) (i : ℕ) → length s ≤ i → (p : ℕ → Bool) → any p (drop i s) ≡ false
any-end s i h p = rw (drop_of_length-le s h) refl
