-- What the class asks, from whether a number lies in the ranges.
use mathlib.Core.Path.{◌≡◌, refl}
use mathlib.Core.Bool.{cond, not}
use mathlib.Core.List.{List}
use native.Mathlib.Nat.{suc-ne-zero}
use Prim.Native.Nat.{ℕ, zero, suc}
use borrow.Author.Tests.{ne_eqb}
use lib.Dec.{eqb}
use Rattle.model.specs.Reserved.{Range, in_ranges, misplaced}

pub by_class : (class : ℕ) (ranges : List Range) (x : ℕ) → cond (eqb class 0) (not (in_ranges ranges x)) (in_ranges ranges x) ≡ misplaced class ranges x
unfolding misplaced
by_class zero ranges x = refl
by_class (suc class) ranges x = rw (ne_eqb (suc class) 0 (suc-ne-zero class)) refl
