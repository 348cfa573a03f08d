-- A float given by bits is in range exactly where they lie below 7F800000, and has those bits then. From the laws of bits of floats in range.
use Prim.Native.Nat.{ℕ, min, ◌≤◌, ◌<◌}
use native.Mathlib.Omega.{arith}
use mathlib.Core.Path.{◌≡◌, refl, sym, ap, ◌∙◌}
use mathlib.Core.Bool.{Bool, true, false}
use lib.Dec.{ltb}
use lib.Ieee.{binary32, of_bits, to_bits, is_nan}
use borrow.Author.Tests.{ltb-true, ltb-false}
use Rattle.model.specs.Floats.{in_range, float_of_bits}
use Rattle.laws.proofs.BoundExact.{in_range_bits}

least_bits : (n : ℕ) → n < 0x7f800000 → min n 0x7f800000 ≡ n
least_bits n h = omega arith

most_bits : (n : ℕ) → 0x7f800000 ≤ n → min n 0x7f800000 ≡ 0x7f800000
most_bits n h = omega arith

pub bits_below : (n : ℕ) → n < 0x7f800000 → of_bits binary32 n ≡ float_of_bits n
bits_below n h = ap (of_bits binary32) (sym (least_bits n h))

pub bits_above : (n : ℕ) → 0x7f800000 ≤ n → of_bits binary32 0x7f800000 ≡ float_of_bits n
bits_above n h = ap (of_bits binary32) (sym (most_bits n h))

infinite : in_range (of_bits binary32 0x7f800000) ≡ false
unfolding in_range of_bits to_bits is_nan
infinite = refl

pub bits_in_range : (n : ℕ) → in_range (float_of_bits n) ≡ ltb n 0x7f800000
bits_in_range n = go (ltb n 0x7f800000) refl
  where
    go : (b : Bool) → ltb n 0x7f800000 ≡ b → in_range (float_of_bits n) ≡ b
    go true t = let h = ltb-true n 0x7f800000 t in sym (ap in_range (bits_below n h)) ∙ (in_range_bits n h).0
    go false f = sym (ap in_range (bits_above n (ltb-false n 0x7f800000 f))) ∙ infinite

pub bits_kept : (n : ℕ) → n < 0x7f800000 → to_bits binary32 (float_of_bits n) ≡ n
bits_kept n h = sym (ap (to_bits binary32) (bits_below n h)) ∙ (in_range_bits n h).2
