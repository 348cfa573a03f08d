-- Lists in a strict order: each element stands in the relation to every later one.
use mathlib.Core.List.{List, [], ◌∷◌, Memᴰ}

module _ {A : Type 0} (R : A → A → Type 0) where
  abbrev pub Sorted : List A → Type 0
  Sorted [] = Unit {0}
  Sorted (x ∷ xs) = ((y : A) → Memᴰ y xs → R x y) × Sorted xs
