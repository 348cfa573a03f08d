-- Subobjects put into a list: of a list of right form with more behind it, the walk reads first its own subobjects, since each looks at its own bytes alone, and
-- then those of what is behind, moved on. So what the profile lacks, put anywhere into an exclude list, changes nothing of what hits.
use mathlib.Core.Path.{◌≡◌, refl, sym, subst, ap, ap₂, ◌∙◌}
use mathlib.Core.Logic.{⊎_elim}
use mathlib.Core.Bool.{Bool, true, false, cond, ◌||◌}
use mathlib.Core.List.{List, [], ◌∷◌, ◌++◌, map, Memᴰ}
use Prim.Native.Nat.{ℕ, zero, suc, ◌+◌, ◌-◌, ◌%◌, ◌≤◌, ◌<◌}
use native.Mathlib.Nat.{zero-add, add-zero, suc-add, add_assoc}
use native.Mathlib.Omega.{arith}
use lib.ListN.{length, get_or, take, drop, length-append, length-drop, take-append-drop, get_or-append}
use lib.Seq.{length-take-le, take-append-le, drop-append-le, drop-append-add, get_or-append-add}
use lib.Dec.{eqb, leb, ltb}
use borrow.Author.Tests.{eqb-true, ltb-true, ltb-false}
use Rattle.model.specs.Verdict.{Pass}
use Rattle.model.specs.declared.Domain.{Domain}
use Rattle.model.specs.declared.ListKind.{ListKind}
use Rattle.model.specs.Lists.{any, keep}
use Rattle.model.specs.Bytes.{number, part}
use Rattle.model.specs.Along.{checked_along, places_along}
use Rattle.model.specs.Exclusion.{some_desired}
use Rattle.model.specs.Subobject.{Named, prefix, system, area, stretch, Subobject, top_at, type_at, length_at, area_length_at, subobject_verdict, named_at, subobject_at, after_subobject, form_verdict, subobjects}
use Rattle.laws.proofs.Tests.{decide}
use Rattle.laws.proofs.Lists.{keep_none, keep_append, map_mem}
use Rattle.laws.proofs.Numbers.{number_alike}
use Rattle.laws.proofs.Turns.{and_then_pass}
use Rattle.laws.proofs.Along.{places-step, no_places, check_step, places-whole}
use Rattle.laws.proofs.Forms.{fits_1, fits_5, fits_6, fits_7}
use Rattle.laws.proofs.Walk.{Right, right_subobject, further}
use Rattle.laws.proofs.Subobjects.{named_shift}
use Rattle.laws.proofs.Hits.{hits, unplaced, hitting, desired_unplaced}

-- ---- a subobject looks at its own bytes alone

-- what a subobject of a type, area length and length names
abbrev named_by : ℕ → ℕ → ℕ → List ℕ → ℕ → Named
named_by t a n s at =
    cond (eqb t 1) (prefix (number 4 s (at + 2)) (get_or s (at + 6) 0))
    (cond (eqb t 5) (system (number 4 s (at + 4)))
    (cond (eqb t 6) (area (record { kind = 1; bytes = part s (at + 4) 4 }))
    (cond (eqb t 7) (area (record { kind = 2; bytes = part s (at + 4) a }))
    (cond (eqb t 33) (stretch (part s at n))
    (system (number 2 s (at + 2)))))))

cond_alike : {A : Type 0} (b : Bool) (x y z w : A) → (b ≡ true → x ≡ y) → z ≡ w → cond b x z ≡ cond b y w
cond_alike true x y z w h k = h refl
cond_alike false x y z w h k = k

module _ (xs ys : List ℕ) where
  number_front : (n at : ℕ) → at + n ≤ length xs → number n (xs ++ ys) at ≡ number n xs at
  number_front n at h = number_alike n (xs ++ ys) xs at at (λ i l. get_or-append xs ys 0 (at + i) (omega arith))

  part_front : (at n : ℕ) → at + n ≤ length xs → part (xs ++ ys) at n ≡ part xs at n
  part_front at n h =
      ap (take n) (drop-append-le at xs ys (omega arith))
      ∙ take-append-le n (drop at xs) ys (omega (arith, length-drop at xs))

  module _ (k : ListKind) (at : ℕ) (r : Right k xs (length xs) at) where
    top_front : top_at (xs ++ ys) at ≡ top_at xs at
    top_front = ap (leb 128) (get_or-append xs ys 0 at (omega arith))

    length_front : length_at (xs ++ ys) at ≡ length_at xs at
    length_front = get_or-append xs ys 0 (at + 1) (omega arith)

    named_front : named_at (xs ++ ys) at ≡ named_at xs at
    unfolding named_at
    named_front =
        let t = type_at xs at in
        let a = area_length_at xs at in
        let n = length_at xs at in
        ap₂ (λ (b c : ℕ). named_by (b % 128) c (length_at (xs ++ ys) at) (xs ++ ys) at) (get_or-append xs ys 0 at (omega arith)) (get_or-append xs ys 0 (at + 2) (omega arith))
        ∙ ap (λ (m : ℕ). named_by t a m (xs ++ ys) at) length_front
        ∙ cond_alike (eqb t 1) _ _ _ _
        (λ e.
        let l = fits_1 k a n t r.fits (eqb-true t 1 e) in
        ap₂ prefix (number_front 4 (at + 2) (omega arith)) (get_or-append xs ys 0 (at + 6) (omega arith)))
        (cond_alike (eqb t 5) _ _ _ _ (λ e. let l = fits_5 k a n t r.fits (eqb-true t 5 e) in ap system (number_front 4 (at + 4) (omega arith)))
        (cond_alike (eqb t 6) _ _ _ _
        (λ e.
        let l = fits_6 k a n t r.fits (eqb-true t 6 e) in
        ap (λ (b : List ℕ). area (record { kind = 1; bytes = b })) (part_front (at + 4) 4 (omega arith)))
        (cond_alike (eqb t 7) _ _ _ _
        (λ e.
        let l = fits_7 k a n t r.fits (eqb-true t 7 e) in
        ap (λ (b : List ℕ). area (record { kind = 2; bytes = b })) (part_front (at + 4) a (omega arith)))
        (cond_alike (eqb t 33) _ _ _ _ (λ e. ap stretch (part_front at n r.whole))
        (ap system (number_front 2 (at + 2) (omega arith)))))))

    itself : unplaced (subobject_at (xs ++ ys) at) ≡ unplaced (subobject_at xs at)
    itself = λ i. record { offset = 0; top = top_front i; names = named_front i }

-- ---- the subobjects of a list from an offset on, read with some fuel

abbrev read_along : ℕ → List ℕ → ℕ → List Subobject
read_along fuel s at = map (subobject_at s) (places_along fuel (after_subobject s) (length s) at)

subobjects_step : (s : List ℕ) (at fuel : ℕ) → at < length s → read_along (suc fuel) s at ≡ subobject_at s at ∷ read_along fuel s (after_subobject s at)
subobjects_step s at fuel h = ap (map (subobject_at s)) (places-step (after_subobject s) (length s) at fuel h)

subobjects-end : (fuel : ℕ) (s : List ℕ) (at : ℕ) → length s ≤ at → read_along fuel s at ≡ []
subobjects-end fuel s at h = ap (map (subobject_at s)) (no_places (after_subobject s) (length s) fuel at h)

-- ---- what is behind another list

-- what a subobject names is told from its bytes on
named_at_lem : (s : List ℕ) (at : ℕ) → at ≤ length s → named_at s at ≡ named_at (drop at s) 0
named_at_lem s at h = ap₂ named_at (sym (take-append-drop at s)) (sym (length-take-le at s h)) ∙ named_shift (take at s) (drop at s)

module _ (pre s : List ℕ) where
  moved_at : (at : ℕ) → at ≤ length s → unplaced (subobject_at (pre ++ s) (length pre + at)) ≡ unplaced (subobject_at s at)
  moved_at at h =
      let top : top_at (pre ++ s) (length pre + at) ≡ top_at s at = ap (leb 128) (get_or-append-add pre s at 0) in
      let named =
      named_at_lem (pre ++ s) (length pre + at) (omega (arith, length-append pre s))
      ∙ ap (λ (l : List ℕ). named_at l 0) (drop-append-add pre s at)
      ∙ sym (named_at_lem s at h) in
      λ i. record { offset = 0; top = top i; names = named i }

  moved_next : (at : ℕ) → length pre + at + length_at (pre ++ s) (length pre + at) ≡ length pre + (at + length_at s at)
  moved_next at =
      let e : length_at (pre ++ s) (length pre + at) ≡ length_at s at =
      ap (λ (i : ℕ). get_or (pre ++ s) i 0) (add_assoc (length pre) at 1) ∙ get_or-append-add pre s (at + 1) 0 in
      omega arith

  moved : (fuel at : ℕ) → map unplaced (read_along fuel (pre ++ s) (length pre + at)) ≡ map unplaced (read_along fuel s at)
  unfolding places_along
  moved zero at = refl
  moved (suc fuel) at =
      ⊎_elim
      (λ (t : ltb at (length s) ≡ true).
      let l = ltb-true at (length s) t in
      ap (map unplaced) (subobjects_step (pre ++ s) (length pre + at) fuel (omega (arith, length-append pre s)))
      ∙ ap₂ {C = List Subobject} (λ (x : Subobject) (rest : List Subobject). x ∷ rest)
      (moved_at at (omega arith))
      (ap (λ (o : ℕ). map unplaced (read_along fuel (pre ++ s) o)) (moved_next at) ∙ moved fuel (at + length_at s at))
      ∙ sym (ap (map unplaced) (subobjects_step s at fuel l)))
      (λ (f : ltb at (length s) ≡ false).
      let l = ltb-false at (length s) f in
      ap (map unplaced) (subobjects-end (suc fuel) (pre ++ s) (length pre + at) (omega (arith, length-append pre s)))
      ∙ sym (ap (map unplaced) (subobjects-end (suc fuel) s at l)))
      (decide (ltb at (length s)))

-- ---- a list of right form with more behind it

module _ (k : ListKind) (xs ys : List ℕ) (more : ℕ) where
  -- what is behind, read with the fuel that is left
  abbrev behind : List Subobject
  behind = map unplaced (read_along more ys 0)

  -- from an offset on: these subobjects, and then those behind
  abbrev Front : ℕ → List Subobject → Type 0
  Front at subs = map unplaced (read_along (length subs + more) (xs ++ ys) at) ≡ map unplaced subs ++ behind

  front-end : (at : ℕ) → at ≡ length xs → Front at []
  front-end at e =
      ap₂ (λ (n o : ℕ). map unplaced (read_along n (xs ++ ys) o)) (zero-add more) (e ∙ sym (add-zero (length xs))) ∙ moved xs ys more 0

  front-step
      : (at : ℕ) (subs : List Subobject) → Right k xs (length xs) at
      → Front (at + length_at xs at) subs
      → Front at (subobject_at xs at ∷ subs)
  front-step at subs r later =
      ap (λ (n : ℕ). map unplaced (read_along n (xs ++ ys) at)) (suc-add (length subs) more)
      ∙ ap (map unplaced) (subobjects_step (xs ++ ys) at (length subs + more) (omega (arith, length-append xs ys)))
      ∙ ap₂ {C = List Subobject} (λ (x : Subobject) (rest : List Subobject). x ∷ rest)
      (itself xs ys k at r)
      (ap (λ (n : ℕ). map unplaced (read_along (length subs + more) (xs ++ ys) (at + n))) (length_front xs ys k at r) ∙ later)

  front : (fuel at : ℕ) → at ≤ length xs → length xs ≤ at + fuel → checked_along fuel (subobject_verdict k xs (length xs)) (after_subobject xs) (length xs) at ≡ Pass → Front at (read_along fuel xs at)
  front zero at low high right = subst (Front at) (sym (subobjects-end zero xs at (omega arith))) (front-end at (omega arith))
  front (suc fuel) at low high right =
      ⊎_elim
      (λ (t : ltb at (length xs) ≡ true).
      let l = ltb-true at (length xs) t in
      let both = (and_then_pass (subobject_verdict k xs (length xs) at) _).0 (sym (check_step (after_subobject xs) (length xs) (subobject_verdict k xs (length xs)) at fuel l) ∙ right) in
      let r = right_subobject k xs (length xs) at both.0 in
      subst (Front at) (sym (subobjects_step xs at fuel l))
      (front-step at (read_along fuel xs (at + length_at xs at)) r (front fuel (at + length_at xs at) r.whole (omega arith) both.1)))
      (λ (f : ltb at (length xs) ≡ false).
      let l = ltb-false at (length xs) f in
      subst (Front at) (sym (subobjects-end (suc fuel) xs at l)) (front-end at (omega arith)))
      (decide (ltb at (length xs)))

  -- the whole list
  front_whole : form_verdict k xs ≡ Pass → Front 0 (subobjects xs)
  unfolding form_verdict subobjects
  front_whole right = front (length xs - 0) 0 (omega arith) (omega arith) right

-- ---- exclusions put into a list

-- fuel for all of a list of right form
enough : (k : ListKind) (s : List ℕ) (n : ℕ) → form_verdict k s ≡ Pass → length s ≤ n → subobjects s ≡ read_along n s 0
unfolding form_verdict subobjects
enough k s n right h =
    ap (map (subobject_at s)) (places-whole (after_subobject s) (length s) (subobject_verdict k s (length s)) (further k s (length s)) n 0 (omega arith) right)

module _ {A : Type 0} (p : A → Bool) where
  keep-without : (xs ys zs : List A) → keep p ys ≡ [] → keep p (xs ++ (ys ++ zs)) ≡ keep p (xs ++ zs)
  keep-without xs ys zs none =
      keep_append p xs (ys ++ zs)
      ∙ ap {B = List A} (λ (l : List A). keep p xs ++ l) (keep_append p ys zs ∙ ap {B = List A} (λ (l : List A). l ++ keep p zs) none)
      ∙ sym (keep_append p xs zs)

  any-without : (xs ys zs : List A) → ((y : A) → Memᴰ y ys → p y ≡ false) → any p (xs ++ (ys ++ zs)) ≡ any p (xs ++ zs)
  any-without [] [] zs none = refl
  any-without [] (y ∷ ys) zs none =
      ap (λ (b : Bool). b || any p (ys ++ zs)) (none y (Memᴰ.head refl)) ∙ any-without [] ys zs (λ z m. none z (Memᴰ.tail m))
  any-without (x ∷ xs) ys zs none = ap (λ (b : Bool). p x || b) (any-without xs ys zs none)

-- subobjects put into a list, behind a part of it: that part and they have right form, and so have the list with them and the list without
pub record Inserted (k : ListKind) (before some after : List ℕ) : Type 0 where
  pub right-before : form_verdict k before ≡ Pass
  pub right_some : form_verdict k some ≡ Pass
  pub right_with : form_verdict k (before ++ (some ++ after)) ≡ Pass
  pub right-without : form_verdict k (before ++ after) ≡ Pass

module _ (k : ListKind) (before some after : List ℕ) (in_List : Inserted k before some after) where
  -- fuel for all of them
  abbrev fuel : ℕ
  fuel = length (before ++ (some ++ after))

  subobjects-with
      : map unplaced (subobjects (before ++ (some ++ after)))
      ≡ map unplaced (subobjects before) ++ (map unplaced (subobjects some) ++ map unplaced (read_along fuel after 0))
  subobjects-with =
      ap (map unplaced)
      (enough k (before ++ (some ++ after)) (length (subobjects before) + (length (subobjects some) + fuel)) in_List.right_with (omega arith))
      ∙ front_whole k before (some ++ after) (length (subobjects some) + fuel) in_List.right-before
      ∙ ap {B = List Subobject} (λ (l : List Subobject). map unplaced (subobjects before) ++ l) (front_whole k some after fuel in_List.right_some)

  subobjects-without : map unplaced (subobjects (before ++ after)) ≡ map unplaced (subobjects before) ++ map unplaced (read_along fuel after 0)
  subobjects-without =
      ap (map unplaced)
      (enough k (before ++ after) (length (subobjects before) + fuel) in_List.right-without
      (omega (arith, length-append before after, length-append before (some ++ after), length-append some after)))
      ∙ front_whole k before after fuel in_List.right-before

  -- where the profile lacks all that they name, they change nothing of what hits
  pub inserted-lacking
      : (ds : List Domain) (nodes : List ℕ)
      → ((s : Subobject) → Memᴰ s (subobjects some) → hits ds nodes s ≡ false)
      → hitting ds nodes (subobjects (before ++ (some ++ after))) ≡ hitting ds nodes (subobjects (before ++ after))
  unfolding hitting hits
  inserted-lacking ds nodes lacks =
      ap (keep (hits ds nodes)) subobjects-with
      ∙ keep-without (hits ds nodes) (map unplaced (subobjects before)) (map unplaced (subobjects some)) (map unplaced (read_along fuel after 0))
      (keep_none (hits ds nodes) (map unplaced (subobjects some))
      (λ s m. let q = map_mem unplaced (subobjects some) m in ap (hits ds nodes) q.2 ∙ lacks q.0 q.1))
      ∙ sym (ap (keep (hits ds nodes)) subobjects-without)

  -- and where all have X clear, nothing of whether some exclusion has X set
  pub inserted-clear
      : ((s : Subobject) → Memᴰ s (subobjects some) → s.top ≡ false)
      → some_desired (subobjects (before ++ (some ++ after))) ≡ some_desired (subobjects (before ++ after))
  unfolding some_desired
  inserted-clear clear =
      sym (desired_unplaced (subobjects (before ++ (some ++ after))))
      ∙ ap some_desired subobjects-with
      ∙ any-without (λ (s : Subobject). s.top) (map unplaced (subobjects before)) (map unplaced (subobjects some)) (map unplaced (read_along fuel after 0))
      (λ s m. let q = map_mem unplaced (subobjects some) m in ap (λ (x : Subobject). x.top) q.2 ∙ clear q.0 q.1)
      ∙ sym (ap some_desired subobjects-without)
      ∙ desired_unplaced (subobjects (before ++ after))
