-- Which lengths fit a type of the table, as one test: what a scan of the table comes to at the type's number.
use mathlib.Core.Path.{◌≡◌, refl, ap, ◌∙◌}
use mathlib.Core.Bool.{false, ◌||◌, or-false}
use Prim.Native.Nat.{ℕ, ◌+◌, ◌*◌}
use native.Mathlib.Nat.{zero-mul}
use native.Mathlib.Omega.{arith}
use lib.Dec.{eqb, leb}
use Rattle.model.specs.declared.ListKind.{ListKind}
use Rattle.model.specs.declared.ListKind.TheVariants.{Include}
use Rattle.model.specs.Subobject.{length_fits, rounded_up}

exact : (n m x : ℕ) → x ≡ m → (eqb n x || false) ≡ eqb n m
exact n m x e = or-false (eqb n x) ∙ ap (eqb n) e

module _ (k : ListKind) (a n : ℕ) where
  pub fits_1 : length_fits k 1 a n ≡ eqb n 8
  unfolding length_fits
  fits_1 = exact n 8 (8 + 0 * rounded_up a) (omega arith)

  pub fits_5 : length_fits k 5 a n ≡ eqb n 8
  unfolding length_fits
  fits_5 = exact n 8 (8 + 0 * rounded_up a) (omega arith)

  pub fits_6 : length_fits k 6 a n ≡ eqb n 8
  unfolding length_fits
  fits_6 = exact n 8 (8 + 0 * rounded_up a) (omega arith)

  pub fits_7 : length_fits k 7 a n ≡ eqb n (4 + rounded_up a)
  unfolding length_fits
  fits_7 = exact n (4 + rounded_up a) (4 + 1 * rounded_up a) (omega arith)

  pub fits_32 : length_fits k 32 a n ≡ eqb n 4
  unfolding length_fits
  fits_32 = exact n 4 (4 + 0 * rounded_up a) (omega arith)

-- any length from 4 on fits an EXRS
pub fits_33 : (a n : ℕ) → length_fits Include 33 a n ≡ leb 4 n
unfolding length_fits
fits_33 a n = or-false (leb (4 + 0 * rounded_up a) n) ∙ (rw (zero-mul (rounded_up a)) refl)
