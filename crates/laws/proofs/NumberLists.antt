-- Lists of numbers: a test that one number alone passes, two lists that are the same, and lists of different numbers. By recursion on the list.
use Prim.Native.Nat.{ℕ, zero, suc, ◌+◌, ◌≤◌, ◌<◌}
use native.Mathlib.Nat.{eq-or-lt_of_le}
use native.Mathlib.Omega.{arith}
use mathlib.Core.Path.{◌≡◌, refl, sym, ap, ◌∙◌}
use mathlib.Core.Logic.{⊎_elim}
use mathlib.Core.Bool.{Bool, true, false, not, ◌||◌, false≢true}
use mathlib.Core.List.Memᴰ
use mathlib.Core.List.{List, [], ◌∷◌, ◌++◌}
use lib.Dec.{eqb}
use borrow.Author.Tests.{eqb-true, eqb-false, eq-eqb, ne_eqb, not-true}
use Rattle.model.specs.Lists.{among, any, all_different, count_from, keep, keep_if, same}
use Rattle.laws.proofs.Tests.{and_both, both_and, or_neither, neither_or, refuted, clash}
use Rattle.laws.proofs.Lists.{keep_none, any_false, mem_any, count_from_mem}

-- of n numbers only d passes the test
pub keep_one
    : (p : ℕ → Bool) (a n d : ℕ)
    → a ≤ d
    → d < a + n
    → p d ≡ true
    → ((i : ℕ) → i < a + n → p i ≡ true → i ≡ d)
    → keep p (count_from a n) ≡ d ∷ []
unfolding keep count_from
keep_one p a zero d l u t only = absurd (omega arith)
keep_one p a (suc n) d l u t only = go (p a) refl (λ (k : a < d). keep_one p (suc a) n d k (omega arith) t (λ i h e. only i (omega arith) e))
  where
    go : (b : Bool) → p a ≡ b → (a < d → keep p (count_from (suc a) n) ≡ d ∷ []) → keep_if b a (keep p (count_from (suc a) n)) ≡ d ∷ []
    go true e later =
        let here : a ≡ d = only a (omega arith) e in
        let others : keep p (count_from (suc a) n) ≡ [] =
        keep_none p (count_from (suc a) n)
        (λ i m. let r = count_from_mem (suc a) n m in refuted (p i) (λ f. let same : i ≡ d = only i (omega arith) f in omega arith)) in
        λ j. here j ∷ others j
    go false e later = ⊎_elim (λ (same : a ≡ d). clash t (ap p (sym same) ∙ e)) later (eq-or-lt_of_le l)

pub same_equal : (xs ys : List ℕ) → same xs ys ≡ true → xs ≡ ys
unfolding same
same_equal [] [] t = refl
same_equal [] (y ∷ ys) t = absurd (false≢true t)
same_equal (x ∷ xs) [] t = absurd (false≢true t)
same_equal (x ∷ xs) (y ∷ ys) t =
    let b = and_both (eqb x y) (same xs ys) t in
    let e = eqb-true x y b.0 in
    let r = same_equal xs ys b.1 in
    λ i. e i ∷ r i

pub same_self : (xs : List ℕ) → same xs xs ≡ true
unfolding same
same_self [] = refl
same_self (x ∷ xs) = both_and (eqb x x) (same xs xs) (eq-eqb x x refl) (same_self xs)

-- in a list of different numbers one isn't among those before it, and those from it on are different
pub different_fresh : (xs : List ℕ) (d : ℕ) (ys : List ℕ) → all_different (xs ++ (d ∷ ys)) ≡ true → among d xs ≡ false
unfolding all_different among
different_fresh [] d ys t = refl
different_fresh (x ∷ xs) d ys t =
    let b = and_both (not (among x (xs ++ (d ∷ ys)))) (all_different (xs ++ (d ∷ ys))) t in
    let apart : eqb x d ≡ false = any_false (eqb x) (not-true (among x (xs ++ (d ∷ ys))) b.0) (Memᴰ.append_right xs (Memᴰ.head refl)) in
    neither_or (eqb d x) (any (eqb d) xs) (ne_eqb d x (λ e. eqb-false x d apart (sym e))) (different_fresh xs d ys b.1)

pub different-behind : (xs ys : List ℕ) → all_different (xs ++ ys) ≡ true → all_different ys ≡ true
unfolding all_different
different-behind [] ys t = t
different-behind (x ∷ xs) ys t = different-behind xs ys (and_both (not (among x (xs ++ ys))) (all_different (xs ++ ys)) t).1

pub among-last : (xs : List ℕ) (d : ℕ) → among d (xs ++ (d ∷ [])) ≡ true
unfolding among
among-last xs d = mem_any (eqb d) (Memᴰ.append_right xs (Memᴰ.head refl)) (eq-eqb d d refl)

-- the one after the first isn't the first
pub different_next : (d e : ℕ) (ys : List ℕ) → all_different (d ∷ e ∷ ys) ≡ true → d ≡ e → ⊥
unfolding all_different among
different_next d e ys t equal =
    let b = and_both (not (eqb d e || any (eqb d) ys)) (all_different (e ∷ ys)) t in
    eqb-false d e (or_neither (eqb d e) (any (eqb d) ys) (not-true (eqb d e || any (eqb d) ys) b.0)).0 equal
