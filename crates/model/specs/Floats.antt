-- The exact value of a 32-bit float in units of 2^-149, and its range: document 01, "What a request holds" and "Paths and the tree". The float of a total:
-- document 02, request [4].
use Rattle.std.specs.Prelude.{ℕ, min, ◌+◌, ◌-◌, ◌*◌, ◌/◌, ◌%◌, ◌^◌, ◌≤◌, ◌≡◌, Bool, true, not, ◌&&◌, pos, T, leb, ltb, Float}
use Rattle.std.specs.Float.{nan, inf, fin, binary32}
use Rattle.std.specs.Float.Ieee.{up, down, is_nan, fits, of_bits, to_bits, of_int}

-- how many of 2^-149, the smallest positive value, a float is: a whole number for each that is in range
unfoldable pub units : Float → ℕ
units nan = 0
units (inf s) = 0
units (fin s m e) = m * up e * 2 ^ 149 / down e

-- the bits lie below 7F800000: not negative, finite, a number
unfoldable pub in_range : Float → Bool
in_range x = not (is_nan x) && ltb (to_bits binary32 x) 0x7f800000

-- how far apart two whole numbers are
abbrev pub apart : ℕ → ℕ → ℕ
apart a b = (a - b) + (b - a)

-- how far a float is from a total, in units
abbrev pub off : ℕ → Float → ℕ
off total x = apart (total * 2 ^ 149) (units x)

-- the float in a path answer: the nearest one to the total, at a tie the one whose last bit is even
unfoldable pub float_of : ℕ → Float
float_of total = of_int binary32 (pos total)

-- What those words say of a total and a float. That it holds of `float_of` is a law.
pub record NearestFloat (total : ℕ) (x : Float) : Type 0 where
  pub range : in_range x ≡ true
  -- none is nearer
  pub nearest : (y : Float) → T (fits binary32 y) → in_range y ≡ true → off total x ≤ off total y
  -- where another is as near, the last bit is even
  pub even : (y : Float) → T (fits binary32 y) → in_range y ≡ true → off total y ≡ off total x → (y ≡ x → ⊥) → to_bits binary32 x % 2 ≡ 0

-- at least the bandwidth asked for, as exact values
unfoldable pub at_least : Float → Float → Bool
at_least asked has = leb (units asked) (units has)

-- a total is at most the bound, as exact values: the total itself, not its float
unfoldable pub at_most : ℕ → Float → Bool
at_most total bound = leb (total * 2 ^ 149) (units bound)

-- The float of these bits. Bits from 7F800000 up are out of range (21) whatever they stand for, so all of them give infinity; a NaN's are the bits of no float.
abbrev pub float_of_bits : ℕ → Float
float_of_bits bits = of_bits binary32 (min bits 0x7f800000)
