-- What it means that an AS is somebody's.
use Prim.Native.Nat.{ℕ}
use mathlib.Core.Path.{◌≡◌}

-- it is neither 0 nor 23456
abbrev pub Owned : ℕ → Type 0
Owned asn = (asn ≡ 0 → ⊥) × (asn ≡ 23456 → ⊥)
