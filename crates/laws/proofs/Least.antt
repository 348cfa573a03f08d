-- The least of a list of numbers: it is one of them and at most each, and no other number is both; that of two lists one after the other,
-- and of a list with a number added to each element. By recursion on the list.
use mathlib.Core.Path.{◌≡◌, refl, sym, subst}
use mathlib.Core.Logic.{◌⊎◌, inl, inr, ⊎_elim}
use mathlib.Core.Bool.{true, false, true≢false}
use mathlib.Core.List.{List, [], ◌∷◌, ◌++◌, map, Memᴰ}
use Prim.Native.Nat.{ℕ, ◌+◌, ◌≤◌, min}
use native.Mathlib.Nat.{le_antisymm}
use native.Mathlib.Omega.{arith}
use lib.Dec.{leb}
use borrow.Author.Tests.{leb-true, leb-false}
use Rattle.model.specs.Lists.{is_empty, least}
use Rattle.laws.proofs.Tests.{decide}
use Rattle.laws.proofs.Lists.{map_mem, mem-map}

-- the smaller of two numbers is one of them
min_either : (a b : ℕ) → (min a b ≡ a) ⊎ (min a b ≡ b)
min_either a b =
    ⊎_elim
    (λ (t : leb a b ≡ true). let h = leb-true a b t in inl (omega arith))
    (λ (f : leb a b ≡ false). let h = leb-false a b f in inr (omega arith))
    (decide (leb a b))

-- it is at most each of the numbers
pub least_at_most : {xs : List ℕ} {x : ℕ} → Memᴰ x xs → least xs ≤ x
unfolding least
least_at_most {xs = []} m = absurd (mathlib.Core.List.Memᴰ.not-nil m)
least_at_most {xs = y ∷ []} {x} m = ⊎_elim (λ (e : x ≡ y). omega arith) (λ t. absurd (mathlib.Core.List.Memᴰ.not-nil t)) (mathlib.Core.List.Memᴰ.cases_cons m)
least_at_most {xs = y ∷ z ∷ zs} {x} m =
    ⊎_elim
    (λ (e : x ≡ y). omega arith)
    (λ (t : Memᴰ x (z ∷ zs)). let h = least_at_most t in omega arith)
    (mathlib.Core.List.Memᴰ.cases_cons m)

-- it is one of the numbers
pub least_mem : (xs : List ℕ) → is_empty xs ≡ false → Memᴰ (least xs) xs
unfolding least
least_mem [] e = absurd (true≢false e)
least_mem (x ∷ []) e = mathlib.Core.List.Memᴰ.head refl
least_mem (x ∷ y ∷ ys) e =
    ⊎_elim
    (λ (l : min x (least (y ∷ ys)) ≡ x). mathlib.Core.List.Memᴰ.head l)
    (λ (r : min x (least (y ∷ ys)) ≡ least (y ∷ ys)). mathlib.Core.List.Memᴰ.tail (subst (λ (n : ℕ). Memᴰ n (y ∷ ys)) (sym r) (least_mem (y ∷ ys) refl)))
    (min_either x (least (y ∷ ys)))

-- one of the numbers that is at most each is the least
pub least_unique : (xs : List ℕ) (n : ℕ) → Memᴰ n xs → ((x : ℕ) → Memᴰ x xs → n ≤ x) → least xs ≡ n
least_unique [] n m h = absurd (mathlib.Core.List.Memᴰ.not-nil m)
least_unique (x ∷ xs) n m h = le_antisymm (least_at_most m) (h (least (x ∷ xs)) (least_mem (x ∷ xs) refl))

pub least-append : (xs ys : List ℕ) → is_empty xs ≡ false → is_empty ys ≡ false → least (xs ++ ys) ≡ min (least xs) (least ys)
least-append xs ys e f =
    least_unique (xs ++ ys) (min (least xs) (least ys))
    (⊎_elim
    (λ (l : min (least xs) (least ys) ≡ least xs). subst (λ (n : ℕ). Memᴰ n (xs ++ ys)) (sym l) (mathlib.Core.List.Memᴰ.append_left ys (least_mem xs e)))
    (λ (r : min (least xs) (least ys) ≡ least ys). subst (λ (n : ℕ). Memᴰ n (xs ++ ys)) (sym r) (mathlib.Core.List.Memᴰ.append_right xs (least_mem ys f)))
    (min_either (least xs) (least ys)))
    (λ x m.
    ⊎_elim
    (λ (t : Memᴰ x xs). let h = least_at_most t in omega arith)
    (λ (t : Memᴰ x ys). let h = least_at_most t in omega arith)
    (mathlib.Core.List.Memᴰ.append_cases xs m))

-- a number added to each is added to the least
pub least_add : (c : ℕ) (xs : List ℕ) → is_empty xs ≡ false → least (map (λ (x : ℕ). c + x) xs) ≡ c + least xs
least_add c xs e =
    least_unique (map (λ (x : ℕ). c + x) xs) (c + least xs)
    (mem-map (λ (x : ℕ). c + x) (least_mem xs e))
    (λ y m. let r = map_mem (λ (x : ℕ). c + x) xs m in let h = least_at_most r.1 in let k = r.2 in omega arith)
