-- The walk from the start over the places from `low` up to `high` of a list, by what stands there: the first place that has the address, or none. By recursion on
-- the places before it.
use mathlib.Core.Path.{◌≡◌, ap, ◌∙◌}
use mathlib.Core.Bool.{Bool}
use mathlib.Core.List.{List}
use Prim.Native.Nat.{ℕ, zero, suc, ◌+◌, ◌-◌, ◌≤◌, ◌<◌}
use native.Mathlib.Omega.{arith}
use lib.ListN.{length, get_or}
use lib.Seq.{slice, slice_empty, slice-cons}
use borrow.Author.Tests.{eq-eqb, ne_eqb}
use Rattle.std.specs.Prelude.{Some, None}
use Rattle.tree_lookup.specs.LookUp.{place_if, place_in}

module _ (xs : List ℕ) (high v : ℕ) (inside : high ≤ length xs) where
  -- one step of the walk
  walk_hit : (i : ℕ) → i < high → get_or xs i 0 ≡ v → place_in i (slice i high xs) v ≡ Some i
  unfolding place_in
  walk_hit i h e =
      ap (λ (l : List ℕ). place_in i l v) (slice-cons i high xs 0 h inside)
      ∙ ap (λ (b : Bool). place_if b i (place_in (suc i) (slice (suc i) high xs) v)) (eq-eqb (get_or xs i 0) v e)

  walk_on : (i : ℕ) → i < high → (get_or xs i 0 ≡ v → ⊥) → place_in i (slice i high xs) v ≡ place_in (suc i) (slice (suc i) high xs) v
  unfolding place_in
  walk_on i h e =
      ap (λ (l : List ℕ). place_in i l v) (slice-cons i high xs 0 h inside)
      ∙ ap (λ (b : Bool). place_if b i (place_in (suc i) (slice (suc i) high xs) v)) (ne_eqb (get_or xs i 0) v e)

  walk_end : place_in high (slice high high xs) v ≡ None
  unfolding place_in
  walk_end = ap (λ (l : List ℕ). place_in high l v) (slice_empty high xs)

  -- n places without the address, and then all that is left
  walk_past
      : (n low i : ℕ) → low + n ≡ i → i ≤ high → ((j : ℕ) → low ≤ j → j < i → get_or xs j 0 ≡ v → ⊥)
      → place_in low (slice low high xs) v ≡ place_in i (slice i high xs) v
  walk_past zero low i e h none = let s : low ≡ i = omega arith in ap (λ (k : ℕ). place_in k (slice k high xs) v) s
  walk_past (suc n) low i e h none =
      walk_on low (omega arith) (none low (omega arith) (omega arith)) ∙ walk_past n (suc low) i (omega arith) h (λ j l u. none j (omega arith) u)

  -- found, or not
  pub walked_at : (low i : ℕ) → low ≤ i → i < high → ((j : ℕ) → low ≤ j → j < i → get_or xs j 0 ≡ v → ⊥) → get_or xs i 0 ≡ v → place_in low (slice low high xs) v ≡ Some i
  walked_at low i l u none e = walk_past (i - low) low i (omega arith) (omega arith) none ∙ walk_hit i u e

  pub walked_none : (low : ℕ) → low ≤ high → ((j : ℕ) → low ≤ j → j < high → get_or xs j 0 ≡ v → ⊥) → place_in low (slice low high xs) v ≡ None
  walked_none low l none = walk_past (high - low) low high (omega arith) (omega arith) none ∙ walk_end
