-- Tests and orders on lists, in the plain form that the other modules use: pick, test all, test any, put in ascending order.
-- Nothing here is particular to the calculator.
use Rattle.std.specs.Prelude.{ℕ, zero, suc, ◌+◌, min, Bool, true, false, not, ◌&&◌, ◌||◌, List, [], ◌∷◌, ◌++◌, length, drop, eqb, ltb}
use Rattle.std.specs.List.{list_any, list_all}

-- the numbers i, i + 1, .. , n of them
unfoldable pub count_from : ℕ → ℕ → List ℕ
count_from i zero = []
count_from i (suc n) = i ∷ count_from (suc i) n

module _ {A : Type 0} where
  -- x before the list where the test holds
  abbrev pub keep_if : Bool → A → List A → List A
  keep_if true x xs = x ∷ xs
  keep_if false x xs = xs

  -- those elements that pass the test, in their order
  unfoldable pub keep : (A → Bool) → List A → List A
  keep p [] = []
  keep p (x ∷ xs) = keep_if (p x) x (keep p xs)

  abbrev pub all : (A → Bool) → List A → Bool
  all p xs = list_all p xs

  abbrev pub any : (A → Bool) → List A → Bool
  any p xs = list_any p xs

  abbrev pub is_empty : List A → Bool
  is_empty [] = true
  is_empty (x ∷ xs) = false

module _ {A B : Type 0} where
  -- what f gives at each element, one list after the other
  unfoldable pub each : (A → List B) → List A → List B
  each f [] = []
  each f (x ∷ xs) = f x ++ each f xs

-- x is one of the numbers
unfoldable pub among : ℕ → List ℕ → Bool
among x xs = any (eqb x) xs

-- no number stands twice
unfoldable pub all_different : List ℕ → Bool
all_different [] = true
all_different (x ∷ xs) = not (among x xs) && all_different xs

unfoldable pub sum : List ℕ → ℕ
sum [] = 0
sum (x ∷ xs) = x + sum xs

-- the least of the numbers, 0 where there is none
unfoldable pub least : List ℕ → ℕ
least [] = 0
least (x ∷ []) = x
least (x ∷ y ∷ ys) = min x (least (y ∷ ys))

-- two lists of numbers are the same
unfoldable pub same : List ℕ → List ℕ → Bool
same [] [] = true
same [] (y ∷ ys) = false
same (x ∷ xs) [] = false
same (x ∷ xs) (y ∷ ys) = eqb x y && same xs ys

-- the first list is less than the second, compared from the left; a list is less than a longer one that it begins
unfoldable pub below : List ℕ → List ℕ → Bool
below xs [] = false
below [] (y ∷ ys) = true
below (x ∷ xs) (y ∷ ys) = ltb x y || (eqb x y && below xs ys)

-- x in its place of an ascending list, where it isn't there yet: before y where it is less, nothing where it is y, else further on
abbrev pub insert_at : Bool → Bool → ℕ → ℕ → List ℕ → List ℕ → List ℕ
insert_at true equal x y ys further = x ∷ y ∷ ys
insert_at false true x y ys further = y ∷ ys
insert_at false false x y ys further = y ∷ further

unfoldable pub insert : ℕ → List ℕ → List ℕ
insert x [] = x ∷ []
insert x (y ∷ ys) = insert_at (ltb x y) (eqb x y) x y ys (insert x ys)

-- the different numbers of a list, ascending
unfoldable pub different : List ℕ → List ℕ
different [] = []
different (x ∷ xs) = insert x (different xs)

-- a list written over the start of a buffer; what lies past it is untouched
unfoldable pub over : {A : Type 0} → List A → List A → List A
over new old = new ++ drop (length new) old
