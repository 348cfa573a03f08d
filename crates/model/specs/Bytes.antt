-- Numbers in lists of bytes, big-endian, and parts of such lists: document 01, "What a profile file holds", and the subobjects' fields.
use Rattle.std.specs.Prelude.{ℕ, zero, suc, ◌+◌, ◌*◌, ◌/◌, ◌%◌, ◌^◌, Bool, List, [], ◌∷◌, get_or, take, drop, eqb}
use Rattle.model.specs.Lists.{all}

-- the number that the n bytes from `at` on stand for, the most significant first
unfoldable pub number : ℕ → List ℕ → ℕ → ℕ
number zero s at = 0
number (suc n) s at = get_or s at 0 * 256 ^ n + number n s (suc at)

-- the n bytes of a number, the most significant first
unfoldable pub bytes_of : ℕ → ℕ → List ℕ
bytes_of zero x = []
bytes_of (suc n) x = x / 256 ^ n % 256 ∷ bytes_of n x

-- the n bytes from `at` on
abbrev pub part : List ℕ → ℕ → ℕ → List ℕ
part s at n = take n (drop at s)

unfoldable pub all_zero : List ℕ → Bool
all_zero s = all (eqb 0) s
