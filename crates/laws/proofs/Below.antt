-- The order `below` on lists of numbers, compared from the left: it is a strict order. By recursion along both lists.
use mathlib.Core.Path.{◌≡◌, refl, sym, subst, ◌∙◌}
use mathlib.Core.Logic.{◌⊎◌, inl, inr, ⊎_elim}
use mathlib.Core.Bool.{true, ◌&&◌, false≢true}
use mathlib.Core.List.{List, [], ◌∷◌}
use Prim.Native.Nat.{ℕ, ◌<◌}
use native.Mathlib.Nat.{lt_irrefl}
use native.Mathlib.Omega.{arith}
use lib.Dec.{eqb, ltb}
use borrow.Author.Tests.{ltb-true, eqb-true, lt-ltb, eq-eqb}
use Rattle.model.specs.Lists.{below}
use Rattle.laws.proofs.Tests.{and_both, both_and, or_either, or_left, or_right}

pub below_cons : (x y : ℕ) (xs ys : List ℕ) → below (x ∷ xs) (y ∷ ys) ≡ true → (x < y) ⊎ ((x ≡ y) × (below xs ys ≡ true))
unfolding below
below_cons x y xs ys t =
    ⊎_elim
    (λ l. inl (ltb-true x y l))
    (λ r. let b = and_both (eqb x y) (below xs ys) r in inr (eqb-true x y b.0, b.1))
    (or_either (ltb x y) (eqb x y && below xs ys) t)

pub below-head : (x y : ℕ) (xs ys : List ℕ) → x < y → below (x ∷ xs) (y ∷ ys) ≡ true
unfolding below
below-head x y xs ys l = or_left (ltb x y) (eqb x y && below xs ys) (lt-ltb x y l)

pub below-tail : (x y : ℕ) (xs ys : List ℕ) → x ≡ y → below xs ys ≡ true → below (x ∷ xs) (y ∷ ys) ≡ true
unfolding below
below-tail x y xs ys e t = or_right (ltb x y) (eqb x y && below xs ys) (both_and (eqb x y) (below xs ys) (eq-eqb x y e) t)

pub below_irrefl : (xs : List ℕ) → below xs xs ≡ true → ⊥
unfolding below
below_irrefl [] t = false≢true t
below_irrefl (x ∷ xs) t = ⊎_elim (λ (l : x < x). lt_irrefl x l) (λ r. below_irrefl xs r.1) (below_cons x x xs xs t)

pub below_trans : (xs ys zs : List ℕ) → below xs ys ≡ true → below ys zs ≡ true → below xs zs ≡ true
unfolding below
below_trans xs [] zs p q = absurd (false≢true p)
below_trans xs (y ∷ ys) [] p q = absurd (false≢true q)
below_trans [] (y ∷ ys) (z ∷ zs) p q = refl
below_trans (x ∷ xs) (y ∷ ys) (z ∷ zs) p q =
    ⊎_elim
    (λ (l : x < y).
    ⊎_elim
    (λ (k : y < z). below-head x z xs zs (omega arith))
    (λ (r : (y ≡ z) × (below ys zs ≡ true)). below-head x z xs zs (subst (λ (w : ℕ). x < w) r.0 l))
    (below_cons y z ys zs q))
    (λ (r : (x ≡ y) × (below xs ys ≡ true)).
    ⊎_elim
    (λ (k : y < z). below-head x z xs zs (subst (λ (w : ℕ). w < z) (sym r.0) k))
    (λ (u : (y ≡ z) × (below ys zs ≡ true)). below-tail x z xs zs (r.0 ∙ u.0) (below_trans xs ys zs r.1 u.1))
    (below_cons y z ys zs q))
    (below_cons x y xs ys p)

pub below_asym : (xs ys : List ℕ) → below xs ys ≡ true → below ys xs ≡ true → ⊥
below_asym xs ys p q = below_irrefl xs (below_trans xs ys xs p q)
