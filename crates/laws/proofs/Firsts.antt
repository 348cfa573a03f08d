-- The first element of a list, none where there is none: of what `keep`, `map` and `each` give, and of lists made for elements in order, from a number on.
-- By recursion on the list.
use mathlib.Core.Path.{◌≡◌, refl, sym, subst, ◌∙◌, ap}
use mathlib.Core.Logic.{⊎_elim}
use mathlib.Core.Bool.{Bool, true, false, true≢false}
use mathlib.Core.List.{List, [], ◌∷◌, ◌++◌, map, head?, Memᴰ}
use mathlib.Core.Option
use mathlib.Core.Option.{Option, some, none-ne-some, some-injective}
use Prim.Native.Nat.{ℕ, ◌<◌}
use native.Mathlib.Nat.{eq-or-lt_of_le}
use native.Mathlib.Omega.{arith}
use lib.Dec.{eqb, ltb}
use borrow.Author.Tests.{eq-eqb, ne_eqb, ltb-true, ltb-false, lt-ltb, le-ltb}
use Rattle.model.specs.Lists.{is_empty, keep_if, keep, each}
use Rattle.laws.specs.Descent.{or_else, through}
use Rattle.laws.proofs.Tests.{decide}
use Rattle.laws.specs.Sorted.{Sorted}
use Rattle.laws.proofs.Lists.{keep_all, keep_none}
use Rattle.laws.proofs.Picks.{each_agree}

module _ {A : Type 0} where
  pub head?-append : (xs ys : List A) → head? (xs ++ ys) ≡ or_else (head? xs) (head? ys)
  head?-append [] ys = refl
  head?-append (x ∷ xs) ys = refl

  pub head?-mem : (xs : List A) {x : A} → head? xs ≡ some x → Memᴰ x xs
  head?-mem [] {x} e = absurd (none-ne-some x e)
  head?-mem (y ∷ ys) {x} e = mathlib.Core.List.Memᴰ.head (sym (some-injective y x e))

  pub head?-some : (xs : List A) → is_empty xs ≡ false → (x : A) × (head? xs ≡ some x)
  head?-some [] e = absurd (true≢false e)
  head?-some (x ∷ xs) e = (x, refl)

module _ {A B : Type 0} where
  pub head?-map : (f : A → B) (xs : List A) → head? (map f xs) ≡ Option.map f (head? xs)
  head?-map f [] = refl
  head?-map f (x ∷ xs) = refl

  pub through_agree : (f g : A → Option B) (xs : List A) → ((x : A) → Memᴰ x xs → f x ≡ g x) → through f (head? xs) ≡ through g (head? xs)
  through_agree f g [] h = refl
  through_agree f g (x ∷ xs) h = h x (mathlib.Core.List.Memᴰ.head refl)

  -- where f gives something at each element, the first is that at the first element
  pub head?-each
      : (f : A → List B) (xs : List A)
      → ((x : A) → Memᴰ x xs → is_empty (f x) ≡ false)
      → head? (each f xs) ≡ through (λ (x : A). head? (f x)) (head? xs)
  unfolding each
  head?-each f [] h = refl
  head?-each f (x ∷ xs) h = head?-append (f x) (each f xs) ∙ go (f x) (h x (mathlib.Core.List.Memᴰ.head refl))
    where
      go : (ys : List B) → is_empty ys ≡ false → or_else (head? ys) (head? (each f xs)) ≡ head? ys
      go [] e = absurd (true≢false e)
      go (y ∷ ys) e = refl

-- ---- the first element from a number on, of lists made for elements whose keys ascend

-- N makes nothing for keys less than y, and for greater ones what M makes, which isn't empty
module _ {A B : Type 0} (key : A → ℕ) (N M : A → List B) (y : ℕ) where
  -- where all keys are greater: the first of the first list
  all_above
      : (xs : List A)
      → ((x : A) → Memᴰ x xs → y < key x)
      → ((x : A) → Memᴰ x xs → y < key x → N x ≡ M x)
      → ((x : A) → Memᴰ x xs → is_empty (M x) ≡ false)
      → head? (each N xs) ≡ through (λ (x : A). head? (M x)) (head? (keep (λ (x : A). ltb y (key x)) xs))
  all_above xs over same there =
      ap head? (each_agree N M xs (λ x m. same x m (over x m)))
      ∙ head?-each M xs there
      ∙ ap (λ (zs : List A). through (λ (x : A). head? (M x)) (head? zs))
      (sym (keep_all (λ (x : A). ltb y (key x)) xs (λ x m. lt-ltb y (key x) (over x m))))

  -- it is the first that N makes for the key y, or else the first that M makes for the least greater key
  pub first_from_lem
      : (xs : List A)
      → Sorted (λ (u v : A). key u < key v) xs
      → ((x : A) → Memᴰ x xs → key x < y → N x ≡ [])
      → ((x : A) → Memᴰ x xs → y < key x → N x ≡ M x)
      → ((x : A) → Memᴰ x xs → is_empty (M x) ≡ false)
      → head? (each N xs)
      ≡ or_else
      (through (λ (x : A). head? (N x)) (head? (keep (λ (x : A). eqb (key x) y) xs)))
      (through (λ (x : A). head? (M x)) (head? (keep (λ (x : A). ltb y (key x)) xs)))
  unfolding keep each
  first_from_lem [] s under same there = refl
  first_from_lem (x ∷ xs) s under same there =
      ⊎_elim
      (λ (t : ltb (key x) y ≡ true).
      low (ltb-true (key x) y t)
      (first_from_lem xs s.1 (λ z m. under z (mathlib.Core.List.Memᴰ.tail m)) (λ z m. same z (mathlib.Core.List.Memᴰ.tail m)) (λ z m. there z (mathlib.Core.List.Memᴰ.tail m))))
      (λ (f : ltb (key x) y ≡ false). ⊎_elim equal high (eq-or-lt_of_le (ltb-false (key x) y f)))
      (decide (ltb (key x) y))
    where
      result : Bool → Bool → Option B
      result e l =
          or_else
          (through (λ (z : A). head? (N z)) (head? (keep_if e x (keep (λ (z : A). eqb (key z) y) xs))))
          (through (λ (z : A). head? (M z)) (head? (keep_if l x (keep (λ (z : A). ltb y (key z)) xs))))

      low : key x < y → head? (each N xs) ≡ result false false → head? (N x ++ each N xs) ≡ result (eqb (key x) y) (ltb y (key x))
      low l r =
          ap (λ (ys : List B). head? (ys ++ each N xs)) (under x (mathlib.Core.List.Memᴰ.head refl) l)
          ∙ r
          ∙ sym (λ i. result (ne_eqb (key x) y (λ e. omega arith) i) (le-ltb y (key x) (omega arith) i))

      equal : y ≡ key x → head? (N x ++ each N xs) ≡ result (eqb (key x) y) (ltb y (key x))
      equal e =
          head?-append (N x) (each N xs)
          ∙ ap (or_else (head? (N x)))
          (all_above xs (λ z m. let k = s.0 z m in omega arith) (λ z m. same z (mathlib.Core.List.Memᴰ.tail m)) (λ z m. there z (mathlib.Core.List.Memᴰ.tail m)))
          ∙ sym (λ i. result (eq-eqb (key x) y (sym e) i) (le-ltb y (key x) (omega arith) i))

      over : y < key x → (z : A) → Memᴰ z (x ∷ xs) → y < key z
      over l z m =
          ⊎_elim
          (λ (e : z ≡ x). subst (λ (w : A). y < key w) (sym e) l)
          (λ (t : Memᴰ z xs). let k = s.0 z t in omega arith)
          (mathlib.Core.List.Memᴰ.cases_cons m)

      high : y < key x → head? (N x ++ each N xs) ≡ result (eqb (key x) y) (ltb y (key x))
      high l =
          let rest = through (λ (z : A). head? (M z)) (head? (keep (λ (z : A). ltb y (key z)) (x ∷ xs))) in
          all_above (x ∷ xs) (over l) same there
          ∙ sym
          (ap (λ (zs : List A). or_else (through (λ (z : A). head? (N z)) (head? zs)) rest)
          (keep_none (λ (z : A). eqb (key z) y) (x ∷ xs) (λ z m. let k = over l z m in ne_eqb (key z) y (λ e. omega arith))))
