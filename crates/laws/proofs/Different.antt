-- How many different numbers a list has when one more is put at its end: one more, unless it is there already.
use mathlib.Core.Path.{◌≡◌, refl, sym, ap, ◌∙◌}
use mathlib.Core.Logic.{⊎_elim}
use mathlib.Core.Bool.{Bool, true, false, ◌||◌}
use mathlib.Core.List.{List, [], ◌∷◌, ◌++◌}
use Prim.Native.Nat.{ℕ, suc}
use lib.Dec.{eqb}
use lib.ListN.{length}
use borrow.Author.Tests.{eqb-true, eqb-false, eq-eqb, ne_eqb}
use Rattle.model.specs.Lists.{any, among, different}
use Rattle.laws.proofs.Tests.{decide, clash, refuted}
use Rattle.laws.proofs.ProfileLists.{among_mem, mem_among, different_mem, mem_different, different-ascending, insert-known, length-insert_new}
use Rattle.laws.proofs.ProfileLists.{different_snoc as different_more}

pub eqb_sym : (x y : ℕ) → eqb x y ≡ eqb y x
eqb_sym x y = go (eqb y x) refl
  where
    go : (t : Bool) → eqb y x ≡ t → eqb x y ≡ t
    go true e = eq-eqb x y (sym (eqb-true y x e))
    go false e = ne_eqb x y (λ (h : x ≡ y). eqb-false y x e (sym h))

-- ---- which numbers

pub among-append : (y : ℕ) (xs ys : List ℕ) → among y (xs ++ ys) ≡ among y xs || among y ys
unfolding among
among-append y [] ys = refl
among-append y (x ∷ xs) ys = ap (λ (t : Bool). eqb y x || t) (among-append y xs ys) ∙ go (eqb y x) (among y xs) (among y ys)
  where
    go : (a b c : Bool) → a || (b || c) ≡ (a || b) || c
    go true b c = refl
    go false b c = refl

-- one more, unless it is there already
abbrev pub one_more : Bool → ℕ → ℕ
one_more true n = n
one_more false n = suc n

pub different-count : (xs : List ℕ) (x : ℕ) → length (different (xs ++ x ∷ [])) ≡ one_more (among x xs) (length (different xs))
different-count xs x =
    ap length (different_more xs x)
    ∙ ⊎_elim
    (λ (t : among x xs ≡ true).
    ap length (insert-known x (different xs) (different-ascending xs) (mem_different xs (among_mem x xs t)))
    ∙ sym (ap (λ (b : Bool). one_more b (length (different xs))) t))
    (λ (f : among x xs ≡ false).
    length-insert_new x (different xs) (refuted (among x (different xs)) (λ t. clash (mem_among x (different_mem xs (among_mem x (different xs) t))) f))
    ∙ sym (ap (λ (b : Bool). one_more b (length (different xs))) f))
    (decide (among x xs))
