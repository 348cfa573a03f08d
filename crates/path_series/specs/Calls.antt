-- The calls that the arguments of a series stand for, and which arguments are malformed. The calls themselves are those of `Series` in `model`.
use Rattle.std.specs.Prelude.{ℕ, zero, suc, ◌*◌, Bool, not, ◌||◌, List, [], ◌∷◌, length, take, drop, eqb, ltb}
use Rattle.model.specs.Lists.{any, sum}
use Rattle.model.specs.Series.{Kind, first_call, next_call, Call}

-- 0 is a first, 1 a next
abbrev pub kind_of : ℕ → Kind
kind_of zero = first_call
kind_of (suc n) = next_call

-- a call for each kind; the buffers lie back to back and are cut by their sizes
unfoldable pub calls_of : List ℕ → List ℕ → List ℕ → List Call
calls_of [] sizes buffers = []
calls_of (k ∷ ks) [] buffers = []
calls_of (k ∷ ks) (n ∷ ns) buffers = record { kind = kind_of k; buffer = take n buffers } ∷ calls_of ks ns (drop n buffers)

abbrev pub unknown : ℕ → Bool
unknown k = ltb 1 k

-- a kind over 1; counts of kinds and sizes that differ; sizes that don't add up to the count of the buffers; not five numbers for each call
unfoldable pub malformed : List ℕ → List ℕ → ℕ → ℕ → Bool
malformed kinds sizes buffers numbers =
    any unknown kinds
    || (not (eqb (length kinds) (length sizes))
    || (not (eqb (sum sizes) buffers)
    || ltb numbers (5 * length kinds)))
