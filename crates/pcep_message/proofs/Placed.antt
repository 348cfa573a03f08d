-- What an object holds by its place as an Option is what the definitions of `pcep_model` read at the number, 0 for none. By the test of that number.
use Rattle.std.specs.Prelude.{None, Some}
use Prim.Native.Nat.{ℕ, ◌+◌, ◌-◌}
use mathlib.Core.Path.{◌≡◌, refl}
use mathlib.Core.Bool.{Bool, true, false, cond}
use mathlib.Core.List.{List}
use lib.Dec.{eqb}
use Rattle.model.specs.Bytes.{number}
use Rattle.pcep_model.specs.Objects.{size_at}
use Rattle.pcep_model.specs.Pcreq.{bits_at, extent_of}
use Rattle.pcep_laws.specs.Firsts.{placed}
use Rattle.pcep_message.specs.Extents.{bits_in, extent_in}

module _ (s : List ℕ) (n m : ℕ) where
  bits_by : (none : Bool) → bits_in s (cond none None (Some n)) m ≡ cond none 0 (number 4 s (n + m))
  bits_by true = refl
  bits_by false = refl

  pub bits_placed : bits_in s (placed n) m ≡ bits_at n (number 4 s (n + m))
  bits_placed = bits_by (eqb n 0)

  extent_by : (none : Bool) → extent_in s (cond none None (Some n)) m ≡ cond none (record { start = 0; size = 0 }) (record { start = n + m; size = size_at s n - m })
  extent_by true = refl
  extent_by false = refl

  pub extent_placed : extent_in s (placed n) m ≡ extent_of s n m
  extent_placed = extent_by (eqb n 0)
