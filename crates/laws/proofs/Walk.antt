-- A walk along subobjects, as a loop meets it: a right subobject has at least 4 bytes and lies before the end, so the form and the subobjects of what is left from
-- an offset on are those of the subobject there and of what is left after it. From the laws of a walk along things, up to any end.
use Rattle.std.specs.Prelude.{Err}
use Prim.Native.Nat.{ℕ, zero, suc, ◌+◌, ◌-◌, ◌≤◌, ◌<◌}
use native.Mathlib.Omega.{arith}
use mathlib.Core.Path.{◌≡◌, refl, sym, ap, subst, ◌∙◌}
use mathlib.Core.Logic.{⊎_elim}
use mathlib.Core.Bool.{Bool, true, false, cond, ◌&&◌, ◌||◌}
use mathlib.Core.List.{List, [], ◌∷◌, ◌++◌, map}
use lib.Dec.{eqb, leb, ltb}
use borrow.Author.Tests.{ltb-true, ltb-false, leb-true, eqb-true}
use Rattle.model.specs.Verdict.{Pass}
use Rattle.model.specs.declared.ListKind.{ListKind}
use Rattle.model.specs.declared.Refusal.{Refusal}
use Rattle.model.specs.Lists.{all, any}
use Rattle.model.specs.Subobject.{LengthRule, length_rules, is_rule, ruled, keeps_rule, length_fits, type_at, length_at, area_length_at, plain_verdict, subobject_verdict, Subobject, subobject_at, after_subobject, form_from, form_verdict, subobjects_from, subobjects}
use Rattle.laws.specs.Left.{form_left, subobjects_left}
use Rattle.laws.proofs.Tests.{and_both, decide}
use Rattle.laws.proofs.Lists.{all_mem, any_mem}
use Rattle.laws.proofs.Forms.{pass_right, plain_of, later_end, nearer_end}
use Rattle.laws.proofs.Along as Along

-- ---- a right subobject

rules_least : all (λ (r : LengthRule). leb 4 r.fixed) length_rules ≡ true
rules_least = refl

kept-least : (longer : Bool) (m n : ℕ) → cond longer (leb m n) (eqb n m) ≡ true → m ≤ n
kept-least true m n e = leb-true m n e
kept-least false m n e = let same = eqb-true n m e in omega arith

-- no length that fits is below 4
pub length-least : (k : ListKind) (t a n : ℕ) → length_fits k t a n ≡ true → 4 ≤ n
unfolding length_fits
length-least k t a n e =
    let m = any_mem (λ (r : LengthRule). is_rule k t r && keeps_rule r a n) length_rules e in
    let r : LengthRule = m.0 in
    let size = kept-least r.longer (ruled r a) n (and_both (is_rule k t r) (keeps_rule r a n) m.2).1 in
    let least = leb-true 4 r.fixed (all_mem (λ (x : LengthRule). leb 4 x.fixed) rules_least m.1) in
    omega arith

-- what right form says of a subobject's bytes: its head lies before the end, and so does all of it, and its length is its type's
pub record Right (k : ListKind) (s : List ℕ) (end at : ℕ) : Type 0 where
  pub head : at + 4 ≤ end
  pub whole : at + length_at s at ≤ end
  pub fits : length_fits k (type_at s at) (area_length_at s at) (length_at s at) ≡ true
  pub long : 4 ≤ length_at s at

module _ (k : ListKind) (s : List ℕ) (end : ℕ) where
  pub right-plain : (at : ℕ) → plain_verdict k s end at ≡ Pass → Right k s end at
  right-plain at e =
      let r = pass_right e in
      record {
        head = r.header;
        whole = r.whole;
        fits = r.size_fits;
        long = length-least k (type_at s at) (area_length_at s at) (length_at s at) r.size_fits;
      }

  pub right_subobject : (at : ℕ) → subobject_verdict k s end at ≡ Pass → Right k s end at
  right_subobject at e = right-plain at (plain_of k s end at e)

  pub further : (at : ℕ) → subobject_verdict k s end at ≡ Pass → at < after_subobject s at
  further at e = omega (arith, (right_subobject at e).long)

  -- ---- what is left from an offset on

  pub form-end : (at : ℕ) → end ≤ at → form_from k s end at ≡ Pass
  form-end = Along.checked_end (after_subobject s) end (subobject_verdict k s end) further

  module _ (at : ℕ) (h : at < end) where
    pub form-refused : (r : Refusal) → subobject_verdict k s end at ≡ Err r → form_from k s end at ≡ Err r
    form-refused = Along.checked_refused (after_subobject s) end (subobject_verdict k s end) further at h

    pub form_next : subobject_verdict k s end at ≡ Pass → form_from k s end at ≡ form_from k s end (after_subobject s at)
    form_next = Along.checked_next (after_subobject s) end (subobject_verdict k s end) further at h

    -- where the form of what is left is right: the subobject there is right, what is left after it is, and the subobjects are it and those after it
    module _ (e : form_from k s end at ≡ Pass) where
      pub right_here : subobject_verdict k s end at ≡ Pass
      right_here = Along.right_here (after_subobject s) end (subobject_verdict k s end) further at h e

      pub right_next : form_from k s end (after_subobject s at) ≡ Pass
      right_next = Along.right_next (after_subobject s) end (subobject_verdict k s end) further at h e

      pub subobjects_next : subobjects_from s end at ≡ subobject_at s at ∷ subobjects_from s end (after_subobject s at)
      subobjects_next = ap (map (subobject_at s)) (Along.places_next (after_subobject s) end (subobject_verdict k s end) further at h e)

-- up to its own end
pub own_end : (k : ListKind) (s : List ℕ) (end at : ℕ) → subobject_verdict k s end at ≡ Pass → subobject_verdict k s (after_subobject s at) at ≡ Pass
own_end k s end at e = nearer_end k s end (after_subobject s at) at (omega (arith, (right_subobject k s end at e).long)) (omega arith) e

pub subobjects-end : (s : List ℕ) (end at : ℕ) → end ≤ at → subobjects_from s end at ≡ []
subobjects-end s end at h = ap (map (subobject_at s)) (Along.no_places (after_subobject s) end (end - at) at h)

-- subobjects of right form up to an offset, and from there on up to another
module _ (k : ListKind) (s : List ℕ) (mid end : ℕ) (order : mid ≤ end) (behind : form_from k s end mid ≡ Pass) where
  abbrev Whole : ℕ → Type 0
  Whole from = (form_from k s end from ≡ Pass) × (subobjects_from s end from ≡ subobjects_from s mid from ++ subobjects_from s end mid)

  whole_here : Whole mid
  whole_here = (behind, ap {B = List Subobject} (λ (l : List Subobject). l ++ subobjects_from s end mid) (sym (subobjects-end s mid mid (omega arith))))

  whole_from : (fuel from : ℕ) → mid ≤ from + fuel → from ≤ mid → form_from k s mid from ≡ Pass → Whole from
  whole_from zero from high low right = let same : mid ≡ from = omega arith in subst Whole same whole_here
  whole_from (suc fuel) from high low right =
      ⊎_elim
      (λ (t : ltb from mid ≡ true).
      let l = ltb-true from mid t in
      let first = right_here k s mid from l right in
      let r = right_subobject k s mid from first in
      let whole = r.whole in
      let long = r.long in
      let later = whole_from fuel (after_subobject s from) (omega arith) whole (right_next k s mid from l right) in
      let l' : from < end = omega arith in
      let right' : form_from k s end from ≡ Pass = form_next k s end from l' (later_end k s mid end from order first) ∙ later.0 in (
        right',
        subobjects_next k s end from l' right'
            ∙ ap {B = List Subobject} (λ (l : List Subobject). subobject_at s from ∷ l) later.1
            ∙ ap {B = List Subobject} (λ (l : List Subobject). l ++ subobjects_from s end mid) (sym (subobjects_next k s mid from l right)),
      ))
      (λ (f : ltb from mid ≡ false). let same : mid ≡ from = omega (arith, ltb-false from mid f) in subst Whole same whole_here)
      (decide (ltb from mid))

  pub forms_join : (from : ℕ) → from ≤ mid → form_from k s mid from ≡ Pass → Whole from
  forms_join from = whole_from mid from (omega arith)

-- the subobject that stands at an offset, alone
module _ (k : ListKind) (s : List ℕ) (at : ℕ) (here : subobject_verdict k s (after_subobject s at) at ≡ Pass) where
  pub form-alone : form_from k s (after_subobject s at) at ≡ Pass
  form-alone = form_next k s (after_subobject s at) at (further k s (after_subobject s at) at here) here ∙ form-end k s (after_subobject s at) (after_subobject s at) (omega arith)

  pub subobject_alone : subobjects_from s (after_subobject s at) at ≡ subobject_at s at ∷ []
  subobject_alone =
      subobjects_next k s (after_subobject s at) at (further k s (after_subobject s at) at here) form-alone
      ∙ ap {B = List Subobject} (λ (l : List Subobject). subobject_at s at ∷ l) (subobjects-end s (after_subobject s at) (after_subobject s at) (omega arith))

-- at the start it is the whole list
pub form-whole : (k : ListKind) (s : List ℕ) → form_left k s 0 ≡ form_verdict k s
unfolding form_verdict
form-whole k s = refl

pub subobjects-whole : (s : List ℕ) → subobjects_left s 0 ≡ subobjects s
unfolding subobjects
subobjects-whole s = refl

-- ---- a test of some subobject, made one subobject at a time

module _ (p : Subobject → Bool) where
  pub any-start : (s : List ℕ) → any p (subobjects_left s 0) ≡ any p (subobjects s)
  any-start s = ap (any p) (subobjects-whole s)

  pub any-end : (s : List ℕ) (end at : ℕ) → end ≤ at → any p (subobjects_from s end at) ≡ false
  any-end s end at h = ap (any p) (subobjects-end s end at h)

  module _ (k : ListKind) (s : List ℕ) (end at : ℕ) (h : at < end) (e : form_from k s end at ≡ Pass) where
    any_step : any p (subobjects_from s end at) ≡ (p (subobject_at s at) || any p (subobjects_from s end (after_subobject s at)))
    any_step = ap (any p) (subobjects_next k s end at h e)

    pub any-hit : p (subobject_at s at) ≡ true → any p (subobjects_from s end at) ≡ true
    any-hit t = any_step ∙ ap (λ (b : Bool). b || any p (subobjects_from s end (after_subobject s at))) t

    pub any-more : p (subobject_at s at) ≡ false → any p (subobjects_from s end at) ≡ any p (subobjects_from s end (after_subobject s at))
    any-more f = any_step ∙ ap (λ (b : Bool). b || any p (subobjects_from s end (after_subobject s at))) f
