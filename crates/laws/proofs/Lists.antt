-- Membership in the lists that `model` makes by `map`, `keep`, `each` and `count_from`, what `all` and `any` say of each element, and lists in a strict order.
-- By recursion on the list.
use mathlib.Core.Path.{◌≡◌, refl, sym, subst, ◌∙◌, ap}
use mathlib.Core.Logic.{◌⊎◌, inl, inr, ⊎_elim}
use mathlib.Core.Bool.{Bool, true, false, ◌||◌, or_assoc, false≢true}
use mathlib.Core.List.{List, [], ◌∷◌, ◌++◌, append_assoc, map, Memᴰ}
use Prim.Native.Nat.{ℕ, zero, suc, ◌+◌, ◌≤◌, ◌<◌}
use native.Mathlib.Omega.{arith}
use native.Mathlib.Nat.{eq-or-lt_of_le}
use lib.ListN.{length, get_or, take, drop, set, length-append, length-drop}
use lib.Seq.{take-append_seam, drop-append_seam, length-take-le, drop-cons, take-suc, set_at, append_snoc}
use Rattle.model.specs.Lists.{count_from, keep_if, keep, all, any, each, over}
use Rattle.laws.specs.Sorted.{Sorted}
use Rattle.laws.proofs.Tests.{and_both, or_either, or_left, or_right, or_neither, both_and}

module _ {A : Type 0} where
  -- ---- keep

  keep_if_mem : (b : Bool) {x y : A} {xs : List A} → Memᴰ x (keep_if b y xs) → ((x ≡ y) × (b ≡ true)) ⊎ Memᴰ x xs
  keep_if_mem true m = ⊎_elim (λ e. inl (e, refl)) (λ t. inr t) (mathlib.Core.List.Memᴰ.cases_cons m)
  keep_if_mem false m = inr m

  keep_if_later : (b : Bool) (y : A) {x : A} {xs : List A} → Memᴰ x xs → Memᴰ x (keep_if b y xs)
  keep_if_later true y m = mathlib.Core.List.Memᴰ.tail m
  keep_if_later false y m = m

  keep_if_here : (b : Bool) (xs : List A) {x y : A} → b ≡ true → x ≡ y → Memᴰ x (keep_if b y xs)
  keep_if_here true xs t e = mathlib.Core.List.Memᴰ.head e
  keep_if_here false xs t e = absurd (false≢true t)

  pub keep_mem : (p : A → Bool) (xs : List A) {x : A} → Memᴰ x (keep p xs) → Memᴰ x xs × (p x ≡ true)
  unfolding keep
  keep_mem p [] m = absurd (mathlib.Core.List.Memᴰ.not-nil m)
  keep_mem p (y ∷ ys) {x} m =
      ⊎_elim
      (λ (e : (x ≡ y) × (p y ≡ true)). (mathlib.Core.List.Memᴰ.head e.0, subst (λ (z : A). p z ≡ true) (sym e.0) e.1))
      (λ (t : Memᴰ x (keep p ys)). let r = keep_mem p ys t in (mathlib.Core.List.Memᴰ.tail r.0, r.1))
      (keep_if_mem (p y) m)

  pub mem_keep : (p : A → Bool) {x : A} {xs : List A} → Memᴰ x xs → p x ≡ true → Memᴰ x (keep p xs)
  unfolding keep
  mem_keep p (mathlib.Core.List.Memᴰ.head {x = y} {xs = ys} e) t = keep_if_here (p y) (keep p ys) (subst (λ (z : A). p z ≡ true) e t) e
  mem_keep p (mathlib.Core.List.Memᴰ.tail {x = y} m) t = keep_if_later (p y) y (mem_keep p m t)

  -- two tests that agree on the elements keep the same
  pub keep_agree : (p q : A → Bool) (xs : List A) → ((x : A) → Memᴰ x xs → p x ≡ q x) → keep p xs ≡ keep q xs
  unfolding keep
  keep_agree p q [] h = refl
  keep_agree p q (x ∷ xs) h = λ i. keep_if (h x (mathlib.Core.List.Memᴰ.head refl) i) x (keep_agree p q xs (λ y m. h y (mathlib.Core.List.Memᴰ.tail m)) i)

  pub keep_all : (p : A → Bool) (xs : List A) → ((x : A) → Memᴰ x xs → p x ≡ true) → keep p xs ≡ xs
  unfolding keep
  keep_all p [] h = refl
  keep_all p (x ∷ xs) h = λ i. keep_if (h x (mathlib.Core.List.Memᴰ.head refl) i) x (keep_all p xs (λ y m. h y (mathlib.Core.List.Memᴰ.tail m)) i)

  pub keep_none : (p : A → Bool) (xs : List A) → ((x : A) → Memᴰ x xs → p x ≡ false) → keep p xs ≡ []
  unfolding keep
  keep_none p [] h = refl
  keep_none p (x ∷ xs) h = λ i. keep_if (h x (mathlib.Core.List.Memᴰ.head refl) i) x (keep_none p xs (λ y m. h y (mathlib.Core.List.Memᴰ.tail m)) i)

  keep_if-append : (b : Bool) (x : A) (xs ys : List A) → keep_if b x (xs ++ ys) ≡ keep_if b x xs ++ ys
  keep_if-append true x xs ys = refl
  keep_if-append false x xs ys = refl

  pub keep_append : (p : A → Bool) (xs ys : List A) → keep p (xs ++ ys) ≡ keep p xs ++ keep p ys
  unfolding keep
  keep_append p [] ys = refl
  keep_append p (x ∷ xs) ys = ap (keep_if (p x) x) (keep_append p xs ys) ∙ keep_if-append (p x) x (keep p xs) (keep p ys)

  -- ---- all and any

  pub all_mem : (p : A → Bool) {x : A} {xs : List A} → all p xs ≡ true → Memᴰ x xs → p x ≡ true
  all_mem p {xs = []} t m = elim m [ ]
  all_mem p {xs = y ∷ ys} t (mathlib.Core.List.Memᴰ.head e) = subst (λ (z : A). p z ≡ true) (sym e) (and_both (p y) (all p ys) t).0
  all_mem p {xs = y ∷ ys} t (mathlib.Core.List.Memᴰ.tail m) = all_mem p (and_both (p y) (all p ys) t).1 m

  pub mem_all : (p : A → Bool) (xs : List A) → ((x : A) → Memᴰ x xs → p x ≡ true) → all p xs ≡ true
  mem_all p [] h = refl
  mem_all p (x ∷ xs) h = both_and (p x) (all p xs) (h x (mathlib.Core.List.Memᴰ.head refl)) (mem_all p xs (λ y m. h y (mathlib.Core.List.Memᴰ.tail m)))

  pub any_append : (p : A → Bool) (xs ys : List A) → any p (xs ++ ys) ≡ (any p xs || any p ys)
  any_append p [] ys = refl
  any_append p (x ∷ xs) ys = ap (λ (b : Bool). p x || b) (any_append p xs ys) ∙ sym (or_assoc (p x) (any p xs) (any p ys))

  pub any_mem : (p : A → Bool) (xs : List A) → any p xs ≡ true → (x : A) × Memᴰ x xs × (p x ≡ true)
  any_mem p [] t = absurd (false≢true t)
  any_mem p (x ∷ xs) t =
      ⊎_elim
      (λ e. (x, mathlib.Core.List.Memᴰ.head refl, e))
      (λ e. let r = any_mem p xs e in (r.0, mathlib.Core.List.Memᴰ.tail r.1, r.2))
      (or_either (p x) (any p xs) t)

  pub mem_any : (p : A → Bool) {x : A} {xs : List A} → Memᴰ x xs → p x ≡ true → any p xs ≡ true
  mem_any p {xs = []} m t = elim m [ ]
  mem_any p {xs = y ∷ ys} (mathlib.Core.List.Memᴰ.head e) t = or_left (p y) (any p ys) (subst (λ (z : A). p z ≡ true) e t)
  mem_any p {xs = y ∷ ys} (mathlib.Core.List.Memᴰ.tail m) t = or_right (p y) (any p ys) (mem_any p m t)

  pub any_false : (p : A → Bool) {x : A} {xs : List A} → any p xs ≡ false → Memᴰ x xs → p x ≡ false
  any_false p {xs = []} t m = elim m [ ]
  any_false p {xs = y ∷ ys} t (mathlib.Core.List.Memᴰ.head e) = subst (λ (z : A). p z ≡ false) (sym e) (or_neither (p y) (any p ys) t).0
  any_false p {xs = y ∷ ys} t (mathlib.Core.List.Memᴰ.tail m) = any_false p (or_neither (p y) (any p ys) t).1 m

-- ---- map and each

module _ {A B : Type 0} where
  pub map_mem : (f : A → B) (xs : List A) {y : B} → Memᴰ y (map f xs) → (x : A) × Memᴰ x xs × (y ≡ f x)
  map_mem f [] m = absurd (mathlib.Core.List.Memᴰ.not-nil m)
  map_mem f (x ∷ xs) m =
      ⊎_elim
      (λ e. (x, mathlib.Core.List.Memᴰ.head refl, e))
      (λ t. let r = map_mem f xs t in (r.0, mathlib.Core.List.Memᴰ.tail r.1, r.2))
      (mathlib.Core.List.Memᴰ.cases_cons m)

  pub mem-map : (f : A → B) {x : A} {xs : List A} → Memᴰ x xs → Memᴰ (f x) (map f xs)
  mem-map f (mathlib.Core.List.Memᴰ.head e) = mathlib.Core.List.Memᴰ.head (ap f e)
  mem-map f (mathlib.Core.List.Memᴰ.tail m) = mathlib.Core.List.Memᴰ.tail (mem-map f m)

  pub map_agree : (f g : A → B) (xs : List A) → ((x : A) → Memᴰ x xs → f x ≡ g x) → map f xs ≡ map g xs
  map_agree f g [] h = refl
  map_agree f g (x ∷ xs) h = λ i. h x (mathlib.Core.List.Memᴰ.head refl) i ∷ map_agree f g xs (λ y m. h y (mathlib.Core.List.Memᴰ.tail m)) i

  pub map-append : (f : A → B) (xs ys : List A) → map f (xs ++ ys) ≡ map f xs ++ map f ys
  map-append f [] ys = refl
  map-append f (x ∷ xs) ys = ap {B = List B} (λ (r : List B). f x ∷ r) (map-append f xs ys)

  pub each_append : (f : A → List B) (xs ys : List A) → each f (xs ++ ys) ≡ each f xs ++ each f ys
  unfolding each
  each_append f [] ys = refl
  each_append f (x ∷ xs) ys = ap {B = List B} (λ (l : List B). f x ++ l) (each_append f xs ys) ∙ sym (append_assoc (f x) (each f xs) (each f ys))

  pub each_mem : (f : A → List B) (xs : List A) {y : B} → Memᴰ y (each f xs) → (x : A) × Memᴰ x xs × Memᴰ y (f x)
  unfolding each
  each_mem f [] m = absurd (mathlib.Core.List.Memᴰ.not-nil m)
  each_mem f (x ∷ xs) m =
      ⊎_elim
      (λ t. (x, mathlib.Core.List.Memᴰ.head refl, t))
      (λ t. let r = each_mem f xs t in (r.0, mathlib.Core.List.Memᴰ.tail r.1, r.2))
      (mathlib.Core.List.Memᴰ.append_cases (f x) m)

  pub mem_each : (f : A → List B) {x : A} {xs : List A} {y : B} → Memᴰ x xs → Memᴰ y (f x) → Memᴰ y (each f xs)
  unfolding each
  mem_each f {xs = []} m t = elim m [ ]
  mem_each f {xs = z ∷ zs} {y = y} (mathlib.Core.List.Memᴰ.head e) t = mathlib.Core.List.Memᴰ.append_left (each f zs) (subst (λ (w : A). Memᴰ y (f w)) e t)
  mem_each f {xs = z ∷ zs} (mathlib.Core.List.Memᴰ.tail m) t = mathlib.Core.List.Memᴰ.append_right (f z) (mem_each f m t)

-- ---- lists in a strict order: each element stands in the relation to every later one

module _ {A : Type 0} (R : A → A → Type 0) where
  keep_if_sorted : (b : Bool) (x : A) (xs : List A) → ((y : A) → Memᴰ y xs → R x y) → Sorted R xs → Sorted R (keep_if b x xs)
  keep_if_sorted true x xs h s = (h, s)
  keep_if_sorted false x xs h s = s

  pub sorted_keep : (p : A → Bool) (xs : List A) → Sorted R xs → Sorted R (keep p xs)
  unfolding keep
  sorted_keep p [] s = tt
  sorted_keep p (x ∷ xs) s = keep_if_sorted (p x) x (keep p xs) (λ y m. s.0 y (keep_mem p xs m).0) (sorted_keep p xs s.1)

  pub sorted_append : (xs ys : List A) → Sorted R xs → Sorted R ys → ((x y : A) → Memᴰ x xs → Memᴰ y ys → R x y) → Sorted R (xs ++ ys)
  sorted_append [] ys s t h = t
  sorted_append (x ∷ xs) ys s t h = (
    λ y m. ⊎_elim (λ n. s.0 y n) (λ n. h x y (mathlib.Core.List.Memᴰ.head refl) n) (mathlib.Core.List.Memᴰ.append_cases xs m),
    sorted_append xs ys s.1 t (λ z y n m. h z y (mathlib.Core.List.Memᴰ.tail n) m),
  )

module _ {A B : Type 0} (R : A → A → Type 0) (Q : B → B → Type 0) where
  -- f carries the order from one type to the other
  pub sorted_map : (f : A → B) (xs : List A) → ((x y : A) → Memᴰ x xs → Memᴰ y xs → R x y → Q (f x) (f y)) → Sorted R xs → Sorted Q (map f xs)
  sorted_map f [] h s = tt
  sorted_map f (x ∷ xs) h s = (
    λ y m. let r = map_mem f xs m in subst (λ (z : B). Q (f x) z) (sym r.2) (h x r.0 (mathlib.Core.List.Memᴰ.head refl) (mathlib.Core.List.Memᴰ.tail r.1) (s.0 r.0 r.1)),
    sorted_map f xs (λ y z m n. h y z (mathlib.Core.List.Memᴰ.tail m) (mathlib.Core.List.Memᴰ.tail n)) s.1,
  )

  -- lists in order, made for elements in order, one after the other
  pub sorted-each
      : (f : A → List B) (xs : List A)
      → ((x : A) → Memᴰ x xs → Sorted Q (f x))
      → ((x y : A) → Memᴰ x xs → Memᴰ y xs → R x y → (a b : B) → Memᴰ a (f x) → Memᴰ b (f y) → Q a b)
      → Sorted R xs
      → Sorted Q (each f xs)
  unfolding each
  sorted-each f [] h k s = tt
  sorted-each f (x ∷ xs) h k s =
      sorted_append Q (f x) (each f xs) (h x (mathlib.Core.List.Memᴰ.head refl))
      (sorted-each f xs (λ y m. h y (mathlib.Core.List.Memᴰ.tail m)) (λ y z m n. k y z (mathlib.Core.List.Memᴰ.tail m) (mathlib.Core.List.Memᴰ.tail n)) s.1)
      (λ a b m n. let r = each_mem f xs n in k x r.0 (mathlib.Core.List.Memᴰ.head refl) (mathlib.Core.List.Memᴰ.tail r.1) (s.0 r.0 r.1) a b m r.2)

-- ---- the numbers from i on

pub count_from_mem : (i n : ℕ) {x : ℕ} → Memᴰ x (count_from i n) → (i ≤ x) × (x < i + n)
unfolding count_from
count_from_mem i zero m = absurd (mathlib.Core.List.Memᴰ.not-nil m)
count_from_mem i (suc n) {x} m = ⊎_elim (λ (e : x ≡ i). omega arith) (λ t. let r = count_from_mem (suc i) n t in omega arith) (mathlib.Core.List.Memᴰ.cases_cons m)

pub mem_count_from : (i n x : ℕ) → i ≤ x → x < i + n → Memᴰ x (count_from i n)
unfolding count_from
mem_count_from i zero x h k = absurd (omega arith)
mem_count_from i (suc n) x h k =
    ⊎_elim
    (λ (e : i ≡ x). mathlib.Core.List.Memᴰ.head (sym e))
    (λ (l : i < x). mathlib.Core.List.Memᴰ.tail (mem_count_from (suc i) n x l (omega arith)))
    (eq-or-lt_of_le h)

-- ---- a list written over the start of a buffer

module _ {A : Type 0} where
  -- the buffer keeps its length, starts with what was written, and keeps what lies past it
  pub over-length : (new old : List A) → length new ≤ length old → length (over new old) ≡ length old
  unfolding over
  over-length new old h = length-append new (drop (length new) old) ∙ rw length-drop (omega arith)

  pub over-take : (new old : List A) → take (length new) (over new old) ≡ new
  unfolding over
  over-take new old = take-append_seam new (drop (length new) old)

  pub over-drop : (new old : List A) → drop (length new) (over new old) ≡ drop (length new) old
  unfolding over
  over-drop new old = drop-append_seam new (drop (length new) old)

  pub over_nothing : (old : List A) → over [] old ≡ old
  unfolding over
  over_nothing old = refl

  -- a list copied element by element over the start of a buffer: one element more
  pub Copied-next
      : (src old : List A) (i : ℕ) (d : A) → i < length src → i < length old
      → set (over (take i src) old) i (get_or src i d) ≡ over (take (suc i) src) old
  unfolding over
  Copied-next src old i d h k =
      let long : length (take i src) ≡ i = length-take-le i src (omega arith) in
      let next : length (take (suc i) src) ≡ suc i = length-take-le (suc i) src h in
      ap (λ (n : ℕ). set (take i src ++ drop n old) i (get_or src i d)) long
      ∙ ap (λ (l : List A). set (take i src ++ l) i (get_or src i d)) (drop-cons old i d k)
      ∙ set_at (take i src) (get_or old i d) (drop (suc i) old) (get_or src i d) i long
      ∙ sym (append_snoc (take i src) (get_or src i d) (drop (suc i) old))
      ∙ ap (λ (l : List A). l ++ drop (suc i) old) (sym (take-suc src i d h))
      ∙ ap (λ (n : ℕ). take (suc i) src ++ drop n old) (sym next)
