-- The nodes of hop records.
use mathlib.Core.List.{List, [], ◌∷◌}
use Prim.Native.Nat.{ℕ}
use Rattle.model.specs.declared.Hop.{Hop}
use Rattle.model.specs.Lists.{each}

-- the tails and the heads of hop records
abbrev pub ends_of : List Hop → List ℕ
ends_of hs = each (λ (h : Hop). h.tail.0 ∷ h.head.0 ∷ []) hs
