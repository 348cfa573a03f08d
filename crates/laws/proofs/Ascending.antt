-- Lists in a strict order that a test decides: an element by its index, the order of what a function makes of the elements, the least element, and what
-- stands above the element at an index: exactly the elements after it. By recursion on the list.
use mathlib.Core.Path.{◌≡◌, refl}
use mathlib.Core.Logic.{◌⊎◌, inl, inr, ⊎_elim}
use mathlib.Core.Bool.{Bool, true}
use mathlib.Core.List.Memᴰ
use mathlib.Core.List.{List, [], ◌∷◌, map, Memᴰ}
use Prim.Native.Nat.{ℕ, zero, suc, ◌<◌}
use native.Mathlib.Nat.{le_of_suc-le-suc, not-suc-le-zero}
use lib.ListN.{length, get_or, drop}
use Rattle.model.specs.Lists.{keep_if, keep}
use Rattle.laws.proofs.Tests.{refuted}
use Rattle.laws.specs.Sorted.{Sorted}
use Rattle.laws.proofs.Lists.{keep_all, mem-map}

module _ {A : Type 0} where
  pub get_or_mem : (xs : List A) (i : ℕ) (d : A) → i < length xs → Memᴰ (get_or xs i d) xs
  get_or_mem [] i d h = absurd (not-suc-le-zero h)
  get_or_mem (x ∷ xs) zero d h = Memᴰ.head refl
  get_or_mem (x ∷ xs) (suc i) d h = Memᴰ.tail (get_or_mem xs i d (le_of_suc-le-suc h))

module _ {A B : Type 0} (Q : B → B → Type 0) where
  -- what f makes of the elements is in order: so are the elements, by what f makes of them
  pub sorted_by : (f : A → B) (xs : List A) → Sorted Q (map f xs) → Sorted (λ (x y : A). Q (f x) (f y)) xs
  sorted_by f [] s = tt
  sorted_by f (x ∷ xs) s = (λ y m. s.0 (f y) (mem-map f m), sorted_by f xs s.1)

module _ {A : Type 0} (R : A → A → Type 0) where
  -- the first element is the least
  pub sorted_least : {x y : A} {xs : List A} → Sorted R (x ∷ xs) → Memᴰ y (x ∷ xs) → (y ≡ x) ⊎ R x y
  sorted_least {x} {y} s m = ⊎_elim (λ (e : y ≡ x). inl e) (λ t. inr (s.0 y t)) (Memᴰ.cases_cons m)

  -- an element stands in the relation to each later one
  pub sorted_get_or : (xs : List A) (i j : ℕ) (d : A) → i < j → j < length xs → Sorted R xs → R (get_or xs i d) (get_or xs j d)
  sorted_get_or [] i j d h k s = absurd (not-suc-le-zero k)
  sorted_get_or (x ∷ xs) i zero d h k s = absurd (not-suc-le-zero h)
  sorted_get_or (x ∷ xs) zero (suc j) d h k s = s.0 (get_or xs j d) (get_or_mem xs j d (le_of_suc-le-suc k))
  sorted_get_or (x ∷ xs) (suc i) (suc j) d h k s = sorted_get_or xs i j d (le_of_suc-le-suc h) (le_of_suc-le-suc k) s.1

module _ {A : Type 0} (b : A → A → Bool) (asym : (x y : A) → b x y ≡ true → b y x ≡ true → ⊥) where
  -- of an ascending list those above the element at index i are those after it
  pub keep-above : (xs : List A) (i : ℕ) (d : A) → i < length xs → Sorted (λ (x y : A). b x y ≡ true) xs → keep (b (get_or xs i d)) xs ≡ drop (suc i) xs
  unfolding keep
  keep-above [] i d h s = absurd (not-suc-le-zero h)
  keep-above (x ∷ xs) zero d h s = λ k. keep_if (refuted (b x x) (λ t. asym x x t t) k) x (keep_all (b x) xs s.0 k)
  keep-above (x ∷ xs) (suc i) d h s =
      let l = le_of_suc-le-suc h in
      let z = get_or xs i d in
      λ k. keep_if (refuted (b z x) (asym x z (s.0 z (get_or_mem xs i d l))) k) x (keep-above xs i d l s.1 k)
