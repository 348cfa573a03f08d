-- All bytes are zero, whichever side the zero stands on.
use mathlib.Core.Path.{◌≡◌, refl, ap₂}
use mathlib.Core.Bool.{◌&&◌}
use mathlib.Core.List.{List, [], ◌∷◌}
use Prim.Native.Nat.{ℕ}
use lib.Dec.{eqb}
use Rattle.std.specs.List.{list_all}
use Rattle.model.specs.Bytes.{all_zero}
use Rattle.laws.proofs.Different.{eqb_sym}

pub zeros : (xs : List ℕ) → list_all (λ (x : ℕ). eqb x 0) xs ≡ all_zero xs
unfolding all_zero
zeros [] = refl
zeros (x ∷ xs) = ap₂ ◌&&◌ (eqb_sym x 0) (zeros xs)
