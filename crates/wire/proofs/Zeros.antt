-- A list of zeros, a byte compared with zero from either side.
use mathlib.Core.Path.{◌≡◌, refl, ap₂}
use mathlib.Core.Bool.{◌&&◌}
use mathlib.Core.List.{List, [], ◌∷◌}
use Prim.Native.Nat.{ℕ}
use lib.Dec.{eqb}
use Rattle.std.specs.List.{list_all}
use Rattle.model.specs.Bytes.{all_zero}
use Rattle.laws.proofs.Different.{eqb_sym}

pub zeros : (s : List ℕ) → list_all (λ (x : ℕ). eqb x 0) s ≡ all_zero s
unfolding all_zero
zeros [] = refl
zeros (x ∷ s) = ap₂ ◌&&◌ (eqb_sym x 0) (zeros s)
