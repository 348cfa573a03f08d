-- What a reading of an include list keeps: where a property of sequences holds of the ingress domain alone and each new domain keeps it, it holds of the list's meaning.
-- By the cases of a reading, one subobject after the other.
use mathlib.Core.Path.{◌≡◌, refl, subst}
use mathlib.Core.Bool.{Bool, true, false}
use mathlib.Core.List.{List, [], ◌∷◌, ◌++◌, Memᴰ}
use mathlib.Core.Option.{Option, none, some}
use Prim.Native.Nat.{ℕ, ◌<◌}
use native.Mathlib.Omega.{arith}
use lib.ListN.{length}
use lib.Dec.{eqb, leb}
use borrow.Author.Tests.{leb-false}
use Rattle.model.specs.declared.Domain.{Domain}
use Rattle.model.specs.declared.Refusal.{Refusal}
use Rattle.model.specs.Lists.{among, count_from}
use Rattle.model.specs.Subobject.{Area, Named, prefix, system, area, stretch, Subobject, subobjects}
use Rattle.model.specs.Sequence.{Stop, ReadingInput, pin_of, stop_with, Waiting, State, Reading, refused, good, continue, added, enter_if, domains_of, enter, name, with_system, wait, area_next, of_system, of_area, read_system, read_named, read_one, finish, read_all, start_in, meaning}
use Rattle.laws.proofs.Lists.{keep_mem, count_from_mem}

-- ---- readings that are good

module _ {A : Type 0} where
  pub refused-good : {P : Type 0} (r : Refusal) (x : A) → refused r ≡ good x → P
  refused-good r x e = let z : ◌≡◌ {A = ℕ} 0 1 = cc in absurd (omega arith)

  pub good-same : (x y : A) → good x ≡ good y → x ≡ y
  good-same x y e = cc

module _ {A B : Type 0} where
  pub continue-good : (reading : Reading A) (f : A → Reading B) (y : B) → continue reading f ≡ good y → (x : A) × (reading ≡ good x) × (f x ≡ good y)
  continue-good (refused r) f y e = refused-good r y e
  continue-good (good x) f y e = (x, refl, e)

-- ---- the domains that a subobject can mean are domains of the profile

module _ (ds : List Domain) where
  abbrev Inside : List ℕ → Type 0
  Inside found = (d : ℕ) → Memᴰ d found → d < length ds

  counted : {d : ℕ} → Memᴰ d (count_from 0 (length ds)) → d < length ds
  counted m = let r = count_from_mem 0 (length ds) m in omega arith

  system-inside : (n : ℕ) → Inside (of_system ds n)
  unfolding of_system
  system-inside n d m = counted (keep_mem _ (count_from 0 (length ds)) m).0

  area-inside : (n : ℕ) (a : Area) → Inside (of_area ds n a)
  unfolding of_area
  area-inside n a d m = counted (keep_mem _ (count_from 0 (length ds)) m).0

-- ---- a property that a new domain keeps

-- a domain of the profile that is new to a sequence of fewer than 16
abbrev pub Grows : List Domain → (List Stop → Type 0) → Type 0
Grows ds P =
    (sequence : List Stop) (d : ℕ) (waiting : List Waiting)
    → P sequence
    → d < length ds
    → among d (domains_of sequence) ≡ false
    → length sequence < 16
    → P (sequence ++ (stop_with d waiting ∷ []))

module _ (R : ReadingInput) (P : List Stop → Type 0) (grows : Grows R.domains P) where
  abbrev ds : List Domain
  ds = R.domains

  -- a reading that is good keeps the property
  abbrev Keeps : Reading State → Type 0
  Keeps reading = (st : State) → reading ≡ good st → P st.sequence

  keeps_good : (st : State) → P st.sequence → Keeps (good st)
  keeps_good st h st' e = subst (λ (x : State). P x.sequence) (good-same st st' e) h

  module _ (st : State) (h : P st.sequence) where
    keeps-enter_if
        : (same back full : Bool) (at d : ℕ)
        → d < length ds
        → among d (domains_of st.sequence) ≡ back
        → leb 16 (length st.sequence) ≡ full
        → Keeps (enter_if same back full at st d)
    keeps-enter_if true back full at d l b f = keeps_good st h
    keeps-enter_if false true full at d l b f = λ st' g. refused-good _ st' g
    keeps-enter_if false false true at d l b f = λ st' g. refused-good _ st' g
    keeps-enter_if false false false at d l b f = keeps_good (added st d) (grows st.sequence d st.waiting h l b (leb-false 16 (length st.sequence) f))

    keeps_name : (at : ℕ) (found : List ℕ) → Inside ds found → Keeps (name at st found)
    unfolding name enter
    keeps_name at [] inside = λ st' g. refused-good _ st' g
    keeps_name at (d ∷ []) inside = keeps-enter_if (eqb d st.here) (among d (domains_of st.sequence)) (leb 16 (length st.sequence)) at d (inside d (Memᴰ.head refl)) refl refl
    keeps_name at (d ∷ e ∷ rest) inside = λ st' g. refused-good _ st' g

    keeps_wait : (at node : ℕ) (waits : Option ℕ) → Keeps (wait at st node waits)
    keeps_wait at node none = keeps_good _ h
    keeps_wait at node (some other) = λ st' g. refused-good _ st' g

  module _ (s : Subobject) (st : State) (h : P st.sequence) where
    keeps_system : (n : ℕ) (next : Bool) → Keeps (read_system R s.offset st n next)
    keeps_system n true = keeps_good (with_system st n) h
    keeps_system n false = keeps_name (with_system st n) h s.offset (of_system ds n) (system-inside ds n)

    keeps_named : (next : Bool) (x : Named) → Keeps (read_named R s st next x)
    keeps_named next (prefix a n) = keeps_wait st h s.offset a (pin_of st.waiting)
    keeps_named next (system n) = keeps_system n next
    keeps_named next (area a) = keeps_name st h s.offset (of_area ds st.asn a) (area-inside ds st.asn a)
    keeps_named next (stretch bytes) = keeps_good _ h

  keeps_finish : (st : State) → P st.sequence → (w : List Waiting) (sequence : List Stop) → finish st w ≡ good sequence → P sequence
  keeps_finish st h [] sequence e = subst P (good-same st.sequence sequence e) h
  keeps_finish st h (w ∷ more) sequence e = refused-good _ sequence e

  keeps_all : (subs : List Subobject) (st : State) → P st.sequence → (sequence : List Stop) → read_all R subs st ≡ good sequence → P sequence
  unfolding read_all read_one
  keeps_all [] st h sequence e = keeps_finish st h st.waiting sequence e
  keeps_all (s ∷ rest) st h sequence e =
      let c = continue-good (read_one R st s (area_next rest)) (λ (next : State). read_all R rest next) sequence e in
      keeps_all rest c.0 (keeps_named s st h (area_next rest) s.names c.0 c.1) sequence c.2

  pub meaning_keeps : (ingress : ℕ) (list : List ℕ) (sequence : List Stop) → P (stop_with ingress [] ∷ []) → meaning R ingress list ≡ good sequence → P sequence
  unfolding meaning
  meaning_keeps ingress list sequence h e = keeps_all (subobjects list) (start_in R ingress) h sequence e
