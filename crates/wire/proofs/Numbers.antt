-- Numbers of two and four bytes as std reads and writes them, big-endian, are those of the definitions.
use mathlib.Core.Path.{◌≡◌, refl, sym}
use mathlib.Core.List.{List, [], ◌∷◌}
use Prim.Native.Nat.{ℕ, ◌+◌}
use native.Mathlib.Nat.{div-one}
use native.Mathlib.Omega.{arith}
use lib.ListN.{get_or}
use Rattle.std.specs.Int.{w16, w32, from_be_bytes, to_be_bytes}
use Rattle.model.specs.Bytes.{number, bytes_of}
use Rattle.laws.proofs.Words.{number_two, number_four}

pub read_two : (s : List ℕ) (at : ℕ) → from_be_bytes w16 (get_or s at 0 ∷ get_or s (at + 1) 0 ∷ []) ≡ number 2 s at
read_two s at = sym (number_two s at)

pub read_four : (s : List ℕ) (at : ℕ) → from_be_bytes w32 (get_or s at 0 ∷ get_or s (at + 1) 0 ∷ get_or s (at + 2) 0 ∷ get_or s (at + 3) 0 ∷ []) ≡ number 4 s at
read_four s at = omega (arith, number_four s at)

pub write_two : (x : ℕ) → to_be_bytes w16 x ≡ bytes_of 2 x
unfolding bytes_of
write_two x = rw (div-one x) refl

pub write_four : (x : ℕ) → to_be_bytes w32 x ≡ bytes_of 4 x
unfolding bytes_of
write_four x = rw (div-one x) refl
