-- Things that stand one after the other in a list of bytes, each telling where the next one starts: the subobjects of a list, the objects of a message.
-- One definition for all, over the check of the thing at an offset, the offset after it, and the end.
use Rattle.std.specs.Prelude.{ℕ, zero, suc, ◌-◌, Bool, true, false, List, [], ◌∷◌, ltb}
use Rattle.model.specs.Verdict.{Verdict, Pass, ◌and_then◌}

-- The things from an offset up to the end, checked in turn. Each right one has at least a byte, so `fuel`, the number of bytes, is enough.
unfoldable pub checked_along : ℕ → (ℕ → Verdict) → (ℕ → ℕ) → ℕ → ℕ → Verdict
checked_along zero check next end at = Pass
checked_along (suc fuel) check next end at =
    elim (ltb at end) [ true ↦ check at and_then checked_along fuel check next end (next at) | false ↦ Pass ]

-- where each of them starts
unfoldable pub places_along : ℕ → (ℕ → ℕ) → ℕ → ℕ → List ℕ
places_along zero next end at = []
places_along (suc fuel) next end at = elim (ltb at end) [ true ↦ at ∷ places_along fuel next end (next at) | false ↦ [] ]

-- with fuel for all that stands from an offset up to the end
abbrev pub checked_from : (ℕ → Verdict) → (ℕ → ℕ) → ℕ → ℕ → Verdict
checked_from check next end at = checked_along (end - at) check next end at

abbrev pub places_from : (ℕ → ℕ) → ℕ → ℕ → List ℕ
places_from next end at = places_along (end - at) next end at

-- the first of some places that passes a test, 0 where none does
abbrev pub or_else : Bool → ℕ → ℕ → ℕ
or_else true at later = at
or_else false at later = later

unfoldable pub first_of : (ℕ → Bool) → List ℕ → ℕ
first_of test [] = 0
first_of test (at ∷ rest) = or_else (test at) at (first_of test rest)
