-- Where the fields of a profile stand: two fields read as the parts of one number, where a hop record starts, that records before others start before
-- them, and which bits are no NaN's.
use mathlib.Core.Path.{◌≡◌}
use mathlib.Core.Bool.{not}
use mathlib.Core.List.{List}
use Prim.Native.Nat.{ℕ, ◌+◌, ◌-◌, ◌^◌, ◌/◌, ◌%◌, ◌<◌, ◌≤◌}
use native.Mathlib.Nat.{add-zero, mul-le-mul_left, mul-suc, mul-add-div_right, div-eq_of_lt, mul-add-mod_self_right, mod-eq_of_lt}
use native.Mathlib.Omega.{arith}
use borrow.Author.Tests.{ne_eqb}
use lib.Dec.{T}
use lib.Ieee.{binary32, nan_bits}
use Rattle.model.specs.Bytes.{number}
use Rattle.model.specs.Profile.{Layout, hop_start}
use Rattle.laws.proofs.BigEndian.{Bytes, number_add, number_bound}
use Rattle.profile_records.specs.Layout.{HopWithin, HopsWithin}

-- two fields that stand together, of m and of n bytes, are the parts of one number
module _ (m n : ℕ) (s : List ℕ) (at : ℕ) (bytes : Bytes s) where
  pub high_field : number (m + n) s at / 256 ^ n ≡ number m s at
  high_field =
      let low : number n s (at + m) < 256 ^ n = number_bound n s (at + m) bytes in
      rw (number_add m n s at, mul-add-div_right {m = 256 ^ n} (omega arith) (number m s at) (number n s (at + m)), div-eq_of_lt low, add-zero)

  pub low_field : number (m + n) s at % 256 ^ n ≡ number n s (at + m)
  low_field =
      let low : number n s (at + m) < 256 ^ n = number_bound n s (at + m) bytes in
      rw (number_add m n s at, mul-add-mod_self_right (number m s at) (256 ^ n) (number n s (at + m)), mod-eq_of_lt low)

pub starts-before : (L : Layout) (s : List ℕ) (i : ℕ) → hop_start L s (i - 1) ≤ hop_start L s i
starts-before L s i =
    let less : i - 1 ≤ i = omega arith in
    omega (arith, mul-le-mul_left L.hop_size less)

pub within-before : (L : Layout) (s : List ℕ) (i : ℕ) → HopWithin L s i → HopWithin L s (i - 1)
within-before L s i w = record { layout = w.layout; inside = omega (arith, w.inside, starts-before L s i) }

pub hop-within : (L : Layout) (s : List ℕ) (i n : ℕ) → HopsWithin L s n → i < n → HopWithin L s i
hop-within L s i n w h =
    record { layout = w.layout; inside = omega (arith, w.inside, mul-le-mul_left L.hop_size h, mul-suc L.hop_size i) }

pub no_nan : (b : ℕ) → b < 0x7f800000 → T (not (nan_bits binary32 b))
unfolding nan_bits
no_nan b h =
    let low : b % 2147483648 / 8388608 < 255 = omega arith in
    rw (ne_eqb (b % 2147483648 / 8388608) 255 (omega arith)) tt
