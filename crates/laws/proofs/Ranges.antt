-- Parts in the middle of a list, by index: which elements a part has, and what a test keeps of it that passes exactly those of a part within it.
use Prim.Native.Nat.{ℕ, suc, ◌+◌, ◌-◌, ◌≤◌, ◌<◌}
use native.Mathlib.Omega.{arith}
use mathlib.Core.Path.{◌≡◌, sym, ap, subst, ◌∙◌}
use mathlib.Core.Logic.{⊎_elim}
use mathlib.Core.Bool.{Bool, true, false}
use mathlib.Core.List.{List, [], ◌∷◌, ◌++◌, append-nil, Memᴰ}
use lib.ListN.{length, get_or, take, drop, take-append-drop}
use lib.Seq.{slice, length-slice, length-take-le, take-take, take_all, drop-append-le, get_or-drop, get_or-take}
use Rattle.model.specs.Lists.{keep}
use Rattle.laws.proofs.Lists.{keep_append, keep_all, keep_none}
use Rattle.laws.proofs.Ascending.{get_or_mem}

module _ {A : Type 0} where
  -- a member stands at some place
  pub mem_place : (xs : List A) (d : A) {x : A} → Memᴰ x xs → (i : ℕ) × (i < length xs) × (x ≡ get_or xs i d)
  mem_place [] d m = absurd (mathlib.Core.List.Memᴰ.not-nil m)
  mem_place (y ∷ xs) d {x} m =
      ⊎_elim
      (λ (e : x ≡ y). (0, omega arith, e))
      (λ (t : Memᴰ x xs). let r = mem_place xs d t in (suc r.0, omega arith, r.2))
      (mathlib.Core.List.Memᴰ.cases_cons m)

module _ {A : Type 0} (xs : List A) where
  -- the elements of a part are those from its first index up to its last
  pub get_or_slice : (f t i : ℕ) (d : A) → f + i < t → get_or (slice f t xs) i d ≡ get_or xs (f + i) d
  get_or_slice f t i d h = get_or-drop f (take t xs) i d ∙ get_or-take t xs (f + i) d h

  pub slice_at : (f t i : ℕ) (d : A) → f ≤ i → i < t → get_or (slice f t xs) (i - f) d ≡ get_or xs i d
  slice_at f t i d l u =
      let e : f + (i - f) ≡ i = omega arith in
      get_or_slice f t (i - f) d (omega arith) ∙ ap (λ (k : ℕ). get_or xs k d) e

  pub slice_mem : (f t : ℕ) (d : A) {x : A} → t ≤ length xs → Memᴰ x (slice f t xs) → (i : ℕ) × (f ≤ i) × (i < t) × (x ≡ get_or xs i d)
  slice_mem f t d h m =
      let r = mem_place (slice f t xs) d m in
      let inside : f + r.0 < t = omega (arith, length-slice f t xs h) in
      (f + r.0, omega arith, inside, r.2 ∙ get_or_slice f t r.0 d inside)

  pub mem_slice : (f t i : ℕ) (d : A) → t ≤ length xs → f ≤ i → i < t → Memᴰ (get_or xs i d) (slice f t xs)
  mem_slice f t i d h l u =
      let inside : i - f < length (slice f t xs) = omega (arith, length-slice f t xs h) in
      subst (λ (x : A). Memᴰ x (slice f t xs)) (slice_at f t i d l u)
      (get_or_mem (slice f t xs) (i - f) d inside)

  -- a part cut at an index
  pub slice_cut : (f m t : ℕ) → f ≤ m → m ≤ t → t ≤ length xs → slice f t xs ≡ slice f m xs ++ slice m t xs
  slice_cut f m t h k l =
      let front : take m (take t xs) ≡ take m xs = take-take m t xs k in
      let long : length (take m xs) ≡ m = length-take-le m xs (omega arith) in
      ap (drop f) (sym (take-append-drop m (take t xs)) ∙ ap (λ (l : List A). l ++ slice m t xs) front)
      ∙ drop-append-le f (take m xs) (slice m t xs) (omega arith)

  pub slice_whole : slice 0 (length xs) xs ≡ xs
  slice_whole = take_all (length xs) xs (omega arith)

  -- a test that passes, of a part's elements, those from one index up to another
  pub keep-range
      : (p : A → Bool) (d : A) (lo f t hi : ℕ)
      → lo ≤ f
      → f ≤ t
      → t ≤ hi
      → hi ≤ length xs
      → ((i : ℕ) → lo ≤ i → i < f → p (get_or xs i d) ≡ false)
      → ((i : ℕ) → f ≤ i → i < t → p (get_or xs i d) ≡ true)
      → ((i : ℕ) → t ≤ i → i < hi → p (get_or xs i d) ≡ false)
      → keep p (slice lo hi xs) ≡ slice f t xs
  keep-range p d lo f t hi h k l m before inside after =
      let told : (b : Bool) (u v : ℕ) → v ≤ length xs → ((i : ℕ) → u ≤ i → i < v → p (get_or xs i d) ≡ b) → (x : A) → Memᴰ x (slice u v xs) → p x ≡ b =
      λ b u v w each x n. let r = slice_mem u v d w n in ap p r.3 ∙ each r.0 r.1 r.2 in
      let first = keep_none p (slice lo f xs) (told false lo f (omega arith) before) in
      let middle = keep_all p (slice f t xs) (told true f t (omega arith) inside) in
      let last = keep_none p (slice t hi xs) (told false t hi m after) in
      ap (keep p) (slice_cut lo f hi h (omega arith) m ∙ ap (λ (r : List A). slice lo f xs ++ r) (slice_cut f t hi k l m))
      ∙ keep_append p (slice lo f xs) (slice f t xs ++ slice t hi xs)
      ∙ ap (λ (r : List A). keep p (slice lo f xs) ++ r) (keep_append p (slice f t xs) (slice t hi xs))
      ∙ (λ i. first i ++ (middle i ++ last i))
      ∙ append-nil (slice f t xs)
