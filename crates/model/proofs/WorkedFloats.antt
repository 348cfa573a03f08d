-- Document 02's request [4]: totals with the bits of their floats, and bounds beside totals, worked out by hand; and one theorem, that each row holds.
-- From 2^24 to 2^25 the floats are 2 apart, then 4, 8, and from 2^27 to 2^28 they are 16 apart.
use Rattle.std.specs.Prelude.{ℕ, ◌-◌, ◌≡◌, refl, Bool, true, false, List, [], ◌∷◌, map}
use Rattle.std.specs.Float.{binary32}
use Rattle.std.specs.Float.Ieee.{of_bits, to_bits, of_fields, odd, size, span, climb, of_int, round}
use Rattle.std.specs.Float.Ieee as Ieee
use Rattle.std.specs.Int.Count.{count_trailing_zeros}
use Rattle.model.specs.Floats.{units, float_of, at_most}

pub record TotalRow : Type 0 where
  pub total : ℕ
  pub bits : ℕ

total : ℕ → ℕ → TotalRow
total t b = record { total = t; bits = b }

pub totals : List TotalRow
totals =
    total 0 0x00000000
    ∷ total 1 0x3f800000
    ∷ total 14 0x41600000
    ∷ total 65535 0x477fff00
    ∷ total 1048560 0x497fff00
    ∷ total 16777215 0x4b7fffff
    ∷ total 16777216 0x4b800000
    -- a tie, down and up to the even last bit
    ∷ total 16777217 0x4b800000
    ∷ total 16777218 0x4b800001
    ∷ total 16777219 0x4b800002
    -- a tie, up to 2^25
    ∷ total 33554431 0x4c000000
    -- 1, 2 (a tie) and 3 above 2^25; and a tie upwards
    ∷ total 33554433 0x4c000000
    ∷ total 33554434 0x4c000000
    ∷ total 33554435 0x4c000001
    ∷ total 33554438 0x4c000002
    -- around 2^26: a tie up to it, 4 and 12 above it, both ties
    ∷ total 67108862 0x4c800000
    ∷ total 67108868 0x4c800000
    ∷ total 67108876 0x4c800002
    -- around 2^27: 8 above it, a tie, is as far off as a float gets
    ∷ total 134217723 0x4cffffff
    ∷ total 134217724 0x4d000000
    ∷ total 134217736 0x4d000000
    ∷ total 134217737 0x4d000001
    ∷ total 134217752 0x4d000002
    -- up to the largest total, a float itself
    ∷ total 268435432 0x4d7ffffe
    ∷ total 268435433 0x4d7fffff
    ∷ total 268435440 0x4d7fffff
    ∷ []

pub record BoundRow : Type 0 where
  pub total : ℕ
  pub bits : ℕ
  pub kept : Bool

bound : ℕ → ℕ → Bool → BoundRow
bound t b k = record { total = t; bits = b; kept = k }

pub bounds : List BoundRow
bounds =
    bound 14 0x41600000 true
    ∷ bound 14 0x415fffff false
    ∷ bound 16777216 0x4b800000 true
    -- a float below the total, and the next one
    ∷ bound 16777217 0x4b800000 false
    ∷ bound 16777217 0x4b800001 true
    -- a float above the total, and the one before
    ∷ bound 16777219 0x4b800002 true
    ∷ bound 16777219 0x4b800001 false
    ∷ bound 134217736 0x4d000000 false
    ∷ bound 134217736 0x4d000001 true
    ∷ bound 268435432 0x4d7ffffe false
    ∷ bound 268435432 0x4d7fffff true
    ∷ bound 268435433 0x4d7fffff true
    ∷ bound 268435433 0x4d7ffffe false
    ∷ bound 268435440 0x4d7fffff true
    -- the largest float, and none at all
    ∷ bound 268435440 0x7f7fffff true
    ∷ bound 1 0x00000000 false
    ∷ bound 0 0x00000000 true
    ∷ []

pub worked-totals : map (λ (r : TotalRow). to_bits binary32 (float_of r.total)) totals ≡ map (λ (r : TotalRow). r.bits) totals
unfolding total totals units float_of of_int round of_bits of_fields to_bits size span climb odd Ieee.units count_trailing_zeros
worked-totals = refl

pub worked-bounds : map (λ (r : BoundRow). at_most r.total (of_bits binary32 r.bits)) bounds ≡ map (λ (r : BoundRow). r.kept) bounds
unfolding bound bounds at_most units float_of of_int round of_bits of_fields size span climb odd Ieee.units count_trailing_zeros
worked-bounds = refl
