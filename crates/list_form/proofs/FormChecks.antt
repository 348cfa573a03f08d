-- The form of one subobject, check by check: which refusal it is once the checks before have passed. By putting the tests' values into the definition.
use Rattle.std.specs.Prelude.{Option, Some, None}
use mathlib.Core.Path.{◌≡◌, refl, ap, ◌∙◌}
use mathlib.Core.Bool.{Bool, true, false, not, cond, ◌&&◌, or-false}
use mathlib.Core.List.{List}
use Prim.Native.Nat.{ℕ, ◌+◌, ◌-◌, ◌≤◌, ◌<◌}
use native.Mathlib.Omega.{arith}
use lib.Dec.{eqb, leb, ltb}
use lib.ListN.{get_or}
use borrow.Author.Tests.{lt-ltb, le-ltb}
use Rattle.model.specs.declared.ListKind.{ListKind}
use Rattle.model.specs.declared.Reason.{Reason}
use Rattle.model.specs.Verdict.{Verdict, Pass, refuse_if, ◌and_then◌, number_of}
use Rattle.model.specs.Reserved.{nobodys}
use Rattle.model.specs.Bytes.{number, part, all_zero}
use Rattle.model.specs.Subobject.{plain_verdict, known, length_fits, top_wrong, prefix_wrong, padding_wrong, field_wrong, type_at, top_at, length_at, area_length_at}
use Rattle.list_subobject.specs.Items.{Readable}
use Rattle.refusal.specs.Refused.{refusal}
use Rattle.list_form.specs.Checks.{head_wrong}
use Rattle.list_subobject.proofs.FormLaws.{padded}

-- ---- the checks as the code makes them: those of the first three bytes together, as one reason or none

abbrev refused_by : Option Reason → ℕ → Verdict
refused_by None at = Pass
refused_by (Some r) at = refusal (number_of r) at

pub no-value : {A : Type 0} (o : Option A) → ((x : A) → o ≡ Some x → ⊥) → o ≡ None
no-value None d = refl
no-value (Some x) d = absurd (d x refl)

abbrev head_of : Bool → Bool → Bool → Bool → Option Reason
head_of z w a e = cond (not z) (Some Reason.UnknownType) (cond w (Some Reason.LooseBit) (cond a (Some Reason.WrongField) (cond e None (Some Reason.SubobjectLength))))

-- b too short, z a known type, w L set, a a wrong area length, e the right length, p past the end, f a wrong field
by_head : (b z w a e p f : Bool) (at : ℕ)
    → (refuse_if b 23 at and_then refuse_if (not z) 24 at and_then refuse_if w 27 at and_then refuse_if a 26 at and_then refuse_if (not e) 25 at and_then refuse_if p 23 at and_then refuse_if f 26 at)
    ≡ (refuse_if b 23 at and_then refused_by (head_of z w a e) at and_then refuse_if p 23 at and_then refuse_if f 26 at)
by_head true z w a e p f at = refl
by_head false false w a e p f at = refl
by_head false true true a e p f at = refl
by_head false true false true e p f at = refl
by_head false true false false true p f at = refl
by_head false true false false false p f at = refl

head-none : (z w a e : Bool) → head_of z w a e ≡ None → e ≡ true
head-none false w a e q = grind arith
head-none true true a e q = grind arith
head-none true false true e q = grind arith
head-none true false false true q = refl
head-none true false false false q = grind arith

module _ (k : ListKind) (s : List ℕ) (end at : ℕ) where
  abbrev pub head : Option Reason
  head = head_wrong k (get_or s at 0) (length_at s at) (area_length_at s at)

  -- the tests of the head
  abbrev z : Bool
  z = known k (type_at s at)

  abbrev w : Bool
  w = top_wrong k (top_at s at)

  abbrev a : Bool
  a = eqb (type_at s at) 7 && not (leb 1 (area_length_at s at) && leb (area_length_at s at) 13)

  abbrev e : Bool
  e = length_fits k (type_at s at) (area_length_at s at) (length_at s at)

  judged
      : plain_verdict k s end at
      ≡ (refuse_if (ltb end (at + 4)) 23 at and_then refused_by head at and_then refuse_if (ltb end (at + length_at s at)) 23 at and_then refuse_if (field_wrong k s at) 26 at)
  unfolding plain_verdict head_wrong
  judged = by_head (ltb end (at + 4)) z w a e (ltb end (at + length_at s at)) (field_wrong k s at) at

  -- a right head says that the length is the type's
  pub head-fits : head ≡ None → length_fits k (type_at s at) (area_length_at s at) (length_at s at) ≡ true
  unfolding head_wrong
  head-fits q = head-none z w a e q

  -- which refusal it is once the checks before have passed
  pub short : end < at + 4 → plain_verdict k s end at ≡ refusal 23 at
  short h = judged ∙ (rw (lt-ltb end (at + 4) h) refl)

  module _ (long : at + 4 ≤ end) where
    pub bad_head : (r : Reason) → head ≡ Some r → plain_verdict k s end at ≡ refusal (number_of r) at
    bad_head r e = judged ∙ (rw (le-ltb end (at + 4) long, e) refl)

    module _ (fine : head ≡ None) where
      pub past_end : end < at + length_at s at → plain_verdict k s end at ≡ refusal 23 at
      past_end h = judged ∙ (rw (le-ltb end (at + 4) long, fine, lt-ltb end (at + length_at s at) h) refl)

      -- the last check decides
      pub by_field : {f : Bool} → f ≡ field_wrong k s at → at + length_at s at ≤ end → plain_verdict k s end at ≡ refuse_if f 26 at
      by_field e h = judged ∙ (rw (le-ltb end (at + 4) long, fine, le-ltb end (at + length_at s at) h, ← e) refl)

-- what a subobject that lies inside the list has for padding
module _ {s : List ℕ} {at : ℕ} (r : Readable s at) where
  -- the padding, from the place after the area up to the subobject's end
  pub padding
      : type_at s at ≡ 7
      → not (all_zero (part s (at + 4 + area_length_at s at) ((at + length_at s at) - (at + 4 + area_length_at s at)))) ≡ padding_wrong s at
  padding e =
      let p = padded r e in
      let d : (at + length_at s at) - (at + 4 + area_length_at s at) ≡ length_at s at - (4 + area_length_at s at) = omega arith in
      ap (λ (n : ℕ). not (all_zero (part s (at + 4 + area_length_at s at) n))) d

-- what the last check is for a type
module _ (k : ListKind) (s : List ℕ) (at : ℕ) where
  abbrev five : Bool
  five = nobodys (number 4 s (at + 4))

  abbrev two : Bool
  two = nobodys (number 2 s (at + 2))

  pub field-1 : type_at s at ≡ 1 → prefix_wrong k s at ≡ field_wrong k s at
  unfolding field_wrong
  field-1 e = rw (e, or-false (prefix_wrong k s at), or-false (prefix_wrong k s at), or-false (prefix_wrong k s at)) refl

  pub field_7 : type_at s at ≡ 7 → padding_wrong s at ≡ field_wrong k s at
  unfolding field_wrong
  field_7 e = rw (e, or-false (padding_wrong s at), or-false (padding_wrong s at)) refl

  pub field-5 : type_at s at ≡ 5 → five ≡ field_wrong k s at
  unfolding field_wrong
  field-5 e = rw (e, or-false five) refl

  pub field_32 : type_at s at ≡ 32 → two ≡ field_wrong k s at
  unfolding field_wrong
  field_32 e = rw e refl

  -- types 6 and 33 have no such field
  pub field-6 : type_at s at ≡ 6 → false ≡ field_wrong k s at
  unfolding field_wrong
  field-6 e = rw e refl

  pub field-33 : type_at s at ≡ 33 → false ≡ field_wrong k s at
  unfolding field_wrong
  field-33 e = rw e refl
