-- Lists by index and lists in a strict order: what stands at a place of `map f (count_from 0 n)`, and `insert` and `different`, which keep the members and make the list strictly ascending. By recursion on the list.
use Prim.Native.Nat.{ℕ, zero, suc, ◌+◌, ◌≤◌, ◌<◌}
use native.Mathlib.Omega.{arith}
use mathlib.Core.Path.{◌≡◌, refl, ap, ◌∙◌}
use mathlib.Core.Logic.{◌⊎◌, inl, inr, ⊎_elim}
use mathlib.Core.Bool.{Bool, true, false}
use mathlib.Core.List.Memᴰ
use mathlib.Core.List.{List, [], ◌∷◌, ◌++◌, map, Memᴰ}
use lib.ListN.{length, get_or, length-map}
use lib.Dec.{eqb, ltb}
use borrow.Author.Tests.{ltb-true, ltb-false, eqb-true, eqb-false, eq-eqb}
use Rattle.model.specs.Lists.{count_from, any, among, insert_at, insert, different}
use Rattle.laws.proofs.Tests.{or_neither, clash}
use Rattle.laws.specs.Sorted.{Sorted}
use Rattle.laws.proofs.Lists.{count_from_mem, any_mem, mem_any}

pub sorted_count_from : (i n : ℕ) → Sorted ◌<◌ (count_from i n)
unfolding count_from
sorted_count_from i zero = tt
sorted_count_from i (suc n) = (λ y m. (count_from_mem (suc i) n m).0, sorted_count_from (suc i) n)

-- ---- the numbers from i on, and what f gives at each of the first n

pub length-count_from : (i n : ℕ) → length (count_from i n) ≡ n
unfolding count_from
length-count_from i zero = refl
length-count_from i (suc n) = ap suc (length-count_from (suc i) n)

module _ {A : Type 0} (f : ℕ → A) where
  pub length-map-count_from : (i n : ℕ) → length (map f (count_from i n)) ≡ n
  length-map-count_from i n = length-map (count_from i n) f ∙ length-count_from i n

  pub get_or-map-count_from : (i n k : ℕ) (d : A) → k < n → get_or (map f (count_from i n)) k d ≡ f (i + k)
  unfolding count_from
  get_or-map-count_from i zero k d h = absurd (omega arith)
  get_or-map-count_from i (suc n) zero d h = ap f (omega arith)
  get_or-map-count_from i (suc n) (suc k) d h = get_or-map-count_from (suc i) n k d (omega arith) ∙ ap f (omega arith)

-- ---- the different numbers of a list, ascending

pub among_mem : (x : ℕ) (xs : List ℕ) → among x xs ≡ true → Memᴰ x xs
unfolding among
among_mem x xs t = let r = any_mem (eqb x) xs t in Memᴰ.cast (eqb-true x r.0 r.2) r.1

pub mem_among : (x : ℕ) {xs : List ℕ} → Memᴰ x xs → among x xs ≡ true
unfolding among
mem_among x m = mem_any (eqb x) m (eq-eqb x x refl)

-- the three places where x may go in a list that begins with y
insert-cases
    : (P : List ℕ → Type 0) (x y : ℕ) (ys : List ℕ)
    → (x < y → P (x ∷ y ∷ ys)) → (x ≡ y → P (y ∷ ys)) → (y < x → P (y ∷ insert x ys))
    → P (insert x (y ∷ ys))
unfolding insert
insert-cases P x y ys less equal greater = go (ltb x y) refl (eqb x y) refl
  where
    go : (l : Bool) → ltb x y ≡ l → (e : Bool) → eqb x y ≡ e → P (insert_at l e x y ys (insert x ys))
    go true p e q = less (ltb-true x y p)
    go false p true q = equal (eqb-true x y q)
    go false p false q = let d = eqb-false x y q in let h = ltb-false x y p in greater (omega arith)

pub insert_mem : (x : ℕ) (xs : List ℕ) {z : ℕ} → Memᴰ z (insert x xs) → (z ≡ x) ⊎ Memᴰ z xs
unfolding insert
insert_mem x [] m = Memᴰ.cases_cons m
insert_mem x (y ∷ ys) {z} m =
    insert-cases (λ (r : List ℕ). Memᴰ z r → (z ≡ x) ⊎ Memᴰ z (y ∷ ys)) x y ys
    (λ l n. Memᴰ.cases_cons n)
    (λ e n. inr n)
    (λ g n. ⊎_elim (λ (e : z ≡ y). inr (Memᴰ.head e)) (λ u. ⊎_elim (λ (e : z ≡ x). inl e) (λ v. inr (Memᴰ.tail v)) (insert_mem x ys u)) (Memᴰ.cases_cons n))
    m

pub mem_insert_new : (x : ℕ) (xs : List ℕ) → Memᴰ x (insert x xs)
unfolding insert
mem_insert_new x [] = Memᴰ.head refl
mem_insert_new x (y ∷ ys) =
    insert-cases (λ (r : List ℕ). Memᴰ x r) x y ys (λ l. Memᴰ.head refl) (λ e. Memᴰ.head e) (λ g. Memᴰ.tail (mem_insert_new x ys))

pub mem_insert_old : (x : ℕ) (xs : List ℕ) {z : ℕ} → Memᴰ z xs → Memᴰ z (insert x xs)
mem_insert_old x [] m = absurd (Memᴰ.not-nil m)
mem_insert_old x (y ∷ ys) {z} m =
    insert-cases (λ (r : List ℕ). Memᴰ z r) x y ys
    (λ l. Memᴰ.tail m)
    (λ e. m)
    (λ g. ⊎_elim (λ (e : z ≡ y). Memᴰ.head e) (λ n. Memᴰ.tail (mem_insert_old x ys n)) (Memᴰ.cases_cons m))

pub insert-ascending : (x : ℕ) (xs : List ℕ) → Sorted ◌<◌ xs → Sorted ◌<◌ (insert x xs)
unfolding insert
insert-ascending x [] s = (λ z m. absurd (Memᴰ.not-nil m), tt)
insert-ascending x (y ∷ ys) s =
    insert-cases (Sorted ◌<◌) x y ys
    (λ l. (λ z m. ⊎_elim (λ (e : z ≡ y). omega arith) (λ n. let h = s.0 z n in omega arith) (Memᴰ.cases_cons m), s))
    (λ e. s)
    (λ g. (λ z m. ⊎_elim (λ (e : z ≡ x). omega arith) (λ n. s.0 z n) (insert_mem x ys m), insert-ascending x ys s.1))

-- `different` has the members of its list
pub different_mem : (xs : List ℕ) {z : ℕ} → Memᴰ z (different xs) → Memᴰ z xs
unfolding different
different_mem [] m = m
different_mem (x ∷ xs) {z} m = ⊎_elim (λ (e : z ≡ x). Memᴰ.head e) (λ n. Memᴰ.tail (different_mem xs n)) (insert_mem x (different xs) m)

pub mem_different : (xs : List ℕ) {z : ℕ} → Memᴰ z xs → Memᴰ z (different xs)
unfolding different
mem_different [] m = m
mem_different (x ∷ xs) {z} m =
    ⊎_elim (λ (e : z ≡ x). Memᴰ.cast e (mem_insert_new x (different xs))) (λ n. mem_insert_old x (different xs) (mem_different xs n)) (Memᴰ.cases_cons m)

-- and is strictly ascending
pub different-ascending : (xs : List ℕ) → Sorted ◌<◌ (different xs)
unfolding different
different-ascending [] = tt
different-ascending (x ∷ xs) = insert-ascending x (different xs) (different-ascending xs)

pub ascending-least : (y : ℕ) (ys : List ℕ) → Sorted ◌<◌ (y ∷ ys) → {z : ℕ} → Memᴰ z (y ∷ ys) → y ≤ z
ascending-least y ys s {z} m = ⊎_elim (λ (e : z ≡ y). omega arith) (λ n. let h = s.0 z n in omega arith) (Memᴰ.cases_cons m)

-- strictly ascending lists with the same members are the same
pub ascending-unique
    : (xs ys : List ℕ) → Sorted ◌<◌ xs → Sorted ◌<◌ ys
    → ((z : ℕ) → Memᴰ z xs → Memᴰ z ys) → ((z : ℕ) → Memᴰ z ys → Memᴰ z xs)
    → xs ≡ ys
ascending-unique [] [] s t f g = refl
ascending-unique [] (y ∷ ys) s t f g = absurd (Memᴰ.not-nil (g y (Memᴰ.head refl)))
ascending-unique (x ∷ xs) [] s t f g = absurd (Memᴰ.not-nil (f x (Memᴰ.head refl)))
ascending-unique (x ∷ xs) (y ∷ ys) s t f g =
    let e : x ≡ y = omega (arith, ascending-least y ys t (f x (Memᴰ.head refl)), ascending-least x xs s (g y (Memᴰ.head refl))) in
    let rest = ascending-unique xs ys s.1 t.1
    (λ z m. let h = s.0 z m in ⊎_elim (λ (q : z ≡ y). absurd (omega arith)) (λ n. n) (Memᴰ.cases_cons (f z (Memᴰ.tail m))))
    (λ z m. let h = t.0 z m in ⊎_elim (λ (q : z ≡ x). absurd (omega arith)) (λ n. n) (Memᴰ.cases_cons (g z (Memᴰ.tail m)))) in
    λ i. e i ∷ rest i

-- a number that stands there already changes nothing, a new one makes the list longer by one
pub insert-known : (x : ℕ) (xs : List ℕ) → Sorted ◌<◌ xs → Memᴰ x xs → insert x xs ≡ xs
insert-known x xs s m =
    ascending-unique (insert x xs) xs (insert-ascending x xs s) s
    (λ z n. ⊎_elim (λ (e : z ≡ x). Memᴰ.cast e m) (λ u. u) (insert_mem x xs n))
    (λ z n. mem_insert_old x xs n)

pub length-insert_new : (x : ℕ) (xs : List ℕ) → among x xs ≡ false → length (insert x xs) ≡ suc (length xs)
unfolding among insert
length-insert_new x [] f = refl
length-insert_new x (y ∷ ys) f =
    let apart = or_neither (eqb x y) (any (eqb x) ys) f in
    insert-cases (λ (r : List ℕ). length r ≡ suc (suc (length ys))) x y ys
    (λ l. refl)
    (λ e. clash (eq-eqb x y e) apart.0)
    (λ g. ap suc (length-insert_new x ys apart.1))

-- one more number at the end
pub different_snoc : (xs : List ℕ) (x : ℕ) → different (xs ++ (x ∷ [])) ≡ insert x (different xs)
different_snoc xs x =
    ascending-unique (different (xs ++ (x ∷ []))) (insert x (different xs)) (different-ascending (xs ++ (x ∷ []))) (insert-ascending x (different xs) (different-ascending xs))
    (λ z m.
    ⊎_elim
    (λ n. mem_insert_old x (different xs) (mem_different xs n))
    (λ n. Memᴰ.cast (Memᴰ.eq_of_singleton n) (mem_insert_new x (different xs)))
    (Memᴰ.append_cases xs (different_mem (xs ++ (x ∷ [])) m)))
    (λ z m.
    mem_different (xs ++ (x ∷ []))
    (⊎_elim
    (λ (e : z ≡ x). Memᴰ.append_right xs (Memᴰ.head e))
    (λ n. Memᴰ.append_left (x ∷ []) (different_mem xs n))
    (insert_mem x (different xs) m)))
