-- The layout that a profile's bytes say is sound, whatever the bytes. By its definition, as the laws on layouts.
use native.Mathlib.Omega.{arith}
use Prim.Native.Nat.{ℕ}
use mathlib.Core.List.{List}
use Rattle.model.specs.Profile.{layout_in}
use Rattle.profile_records.specs.Layout.{SoundLayout}

pub layout-sound : (s : List ℕ) → SoundLayout (layout_in s)
unfolding layout_in
layout-sound s = record { fields = omega arith; cost = omega arith; other = omega arith; small = omega arith; cheap = omega arith }
