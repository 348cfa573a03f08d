-- The sum of a list of numbers, which std adds up from the left.
use mathlib.Core.Path.{◌≡◌, ◌∙◌}
use mathlib.Core.List.{List, [], ◌∷◌}
use Prim.Native.Nat.{ℕ, ◌+◌}
use native.Mathlib.Omega.{arith}
use Rattle.std.specs.List.{fold}
use Rattle.std.specs.List as Std
use Rattle.model.specs.Lists.{sum}

from : (n : ℕ) (xs : List ℕ) → fold (λ (a x : ℕ). a + x) n xs ≡ n + sum xs
unfolding sum
from n [] = omega arith
from n (x ∷ xs) = from (n + x) xs ∙ omega arith

pub list_sum : (xs : List ℕ) → Std.sum xs ≡ sum xs
list_sum xs = from 0 xs ∙ omega arith
