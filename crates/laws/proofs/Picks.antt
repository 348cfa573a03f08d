-- How `keep`, `map` and `each` go together: tests one after the other, on what a function makes of each element, and before it. By recursion on the list.
use mathlib.Core.Path.{◌≡◌, refl, ◌∙◌, ap}
use mathlib.Core.Bool.{Bool, true, false, ◌&&◌, ◌||◌}
use mathlib.Core.List.{List, [], ◌∷◌, ◌++◌, map, Memᴰ}
use Rattle.model.specs.Lists.{keep_if, keep, any, each}
use Rattle.laws.proofs.Lists.{keep_append}

module _ {A : Type 0} where
  -- nothing where a test fails
  abbrev pub list_if : Bool → List A → List A
  list_if true xs = xs
  list_if false xs = []

  -- two tests one after the other are one
  pub keep-keep : (p q : A → Bool) (xs : List A) → keep p (keep q xs) ≡ keep (λ (x : A). q x && p x) xs
  unfolding keep
  keep-keep p q [] = refl
  keep-keep p q (x ∷ xs) = go (q x) (keep-keep p q xs)
    where
      go
          : (b : Bool)
          → keep p (keep q xs) ≡ keep (λ (y : A). q y && p y) xs
          → keep p (keep_if b x (keep q xs)) ≡ keep_if (b && p x) x (keep (λ (y : A). q y && p y) xs)
      go true r = ap (keep_if (p x) x) r
      go false r = r

  -- so are a test before `any` and its own
  pub any-keep : (p q : A → Bool) (xs : List A) → any p (keep q xs) ≡ any (λ (x : A). q x && p x) xs
  unfolding keep
  any-keep p q [] = refl
  any-keep p q (x ∷ xs) = go (q x) (any-keep p q xs)
    where
      go
          : (b : Bool)
          → any p (keep q xs) ≡ any (λ (y : A). q y && p y) xs
          → any p (keep_if b x (keep q xs)) ≡ (b && p x) || any (λ (y : A). q y && p y) xs
      go true r = ap (λ (c : Bool). p x || c) r
      go false r = r

module _ {A B : Type 0} where
  pub keep-map : (p : B → Bool) (f : A → B) (xs : List A) → keep p (map f xs) ≡ map f (keep (λ (x : A). p (f x)) xs)
  unfolding keep
  keep-map p f [] = refl
  keep-map p f (x ∷ xs) = ap (keep_if (p (f x)) (f x)) (keep-map p f xs) ∙ go (p (f x))
    where
      go : (b : Bool) → keep_if b (f x) (map f (keep (λ (y : A). p (f y)) xs)) ≡ map f (keep_if b x (keep (λ (y : A). p (f y)) xs))
      go true = refl
      go false = refl

  pub keep_each : (p : B → Bool) (f : A → List B) (xs : List A) → keep p (each f xs) ≡ each (λ (x : A). keep p (f x)) xs
  unfolding keep each
  keep_each p f [] = refl
  keep_each p f (x ∷ xs) = keep_append p (f x) (each f xs) ∙ ap (λ (ys : List B). keep p (f x) ++ ys) (keep_each p f xs)

  pub each_agree : (f g : A → List B) (xs : List A) → ((x : A) → Memᴰ x xs → f x ≡ g x) → each f xs ≡ each g xs
  unfolding each
  each_agree f g [] h = refl
  each_agree f g (x ∷ xs) h = λ i. h x (Memᴰ.head refl) i ++ each_agree f g xs (λ y m. h y (Memᴰ.tail m)) i

  -- over those that pass a test: an element that fails it gives nothing
  pub each_keep : (p : A → Bool) (f : A → List B) (xs : List A) → each f (keep p xs) ≡ each (λ (x : A). list_if (p x) (f x)) xs
  unfolding keep each
  each_keep p f [] = refl
  each_keep p f (x ∷ xs) = go (p x) ∙ ap (λ (ys : List B). list_if (p x) (f x) ++ ys) (each_keep p f xs)
    where
      go : (b : Bool) → each f (keep_if b x (keep p xs)) ≡ list_if b (f x) ++ each f (keep p xs)
      go true = refl
      go false = refl
