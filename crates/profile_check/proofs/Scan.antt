-- The scan for a number among the first of a list: what is found once one element more is passed.
use mathlib.Core.Path.{◌≡◌, refl}
use mathlib.Core.Bool.{◌||◌, or-false}
use mathlib.Core.List.{List, [], ◌∷◌}
use Prim.Native.Nat.{ℕ, ◌+◌, ◌<◌}
use native.Mathlib.Numerals.{add-one}
use lib.ListN.{length, get_or, take}
use lib.Seq.{take-suc}
use lib.Dec.{eqb}
use Rattle.model.specs.Lists.{among}
use Rattle.laws.proofs.Different.{eqb_sym, among-append}

pub found_next : (xs : List ℕ) (x j : ℕ) → j < length xs → among x (take j xs) || eqb (get_or xs j 0) x ≡ among x (take (j + 1) xs)
unfolding among
found_next xs x j h =
    rw (add-one j, take-suc xs j 0 h, among-append x (take j xs) (get_or xs j 0 ∷ []), eqb_sym (get_or xs j 0) x, or-false (eqb x (get_or xs j 0))) refl
