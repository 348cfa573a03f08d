-- A message that is put together from objects is read as those objects: its header is right, each object passes, and the places are the running offsets.
-- For both kinds of message, over what an object's rule asks; the reads at an object are those of its four bytes of header.
use Prim.Native.Nat.{ℕ, ◌+◌, ◌-◌, ◌*◌, ◌/◌, ◌%◌, ◌≤◌, ◌<◌}
use native.Mathlib.Omega.{arith}
use mathlib.Core.Path.{◌≡◌, refl, sym, ap, ap₂, ◌∙◌}
use mathlib.Core.Bool.{Bool, true, false, not, ◌&&◌}
use mathlib.Core.List.{List, [], ◌∷◌, ◌++◌}
use lib.ListN.{length, length-append}
use lib.Seq.{take_at}
use lib.Dec.{eqb}
use borrow.Author.Tests.{le-ltb, eq-eqb}
use Rattle.model.specs.Verdict.{Pass}
use Rattle.model.specs.Lists.{each}
use Rattle.model.specs.Bytes.{number, bytes_of, part}
use Rattle.laws.proofs.Numbers.{number_shift, number-bytes_of}
use Rattle.pcep_model.specs.declared.MessageKind.{MessageKind}
use Rattle.model.specs.Along.{first_of}
use Rattle.pcep_model.specs.Objects.{known_object, own_length, class_at, type_at, demanded_at, size_at, object_verdict, after_object, objects_verdict, objects_in, is_object, first_object, type_number, header_wrong}
use Rattle.pcep_model.specs.Pcrep.{mark, object_bytes, header_bytes}
use Rattle.laws.proofs.InARow.{Stands, stands_inside, stands_get_or, stands_first, stands_number, stands_part, Each, Row, offsets, first_at, in_a_row, checked_row, places_row, first-row}

-- an object of type 1, with P set or clear
pub record Object : Type 0 where
  pub class : ℕ
  pub demanded : Bool
  pub body : List ℕ

abbrev pub bytes_of_object : Object → List ℕ
bytes_of_object o = object_bytes o.class o.demanded o.body

-- what the message's table of objects asks of it, and what its two bytes of length can hold
pub record RightObject (k : MessageKind) (o : Object) : Type 0 where
  pub short : 4 + length o.body < 65536
  pub padded : (4 + length o.body) % 4 ≡ 0
  pub own : own_length k o.class 1 (4 + length o.body) ≡ true
  pub welcome : (o.demanded && not (known_object k o.class 1)) ≡ false

pub object_length : (o : Object) → length (bytes_of_object o) ≡ 4 + length o.body
unfolding bytes_of
object_length o = omega arith

type_one : (p : Bool) → (16 + 2 * mark p) / 16 ≡ 1
type_one true = refl
type_one false = refl

p-read : (p : Bool) → eqb ((16 + 2 * mark p) / 2 % 2) 1 ≡ p
p-read true = refl
p-read false = refl

-- ---- the header of an object, wherever it stands

module _ (s : List ℕ) (at : ℕ) (o : Object) (h : Stands s at (bytes_of_object o)) where
  pub class-read : class_at s at ≡ o.class
  class-read = stands_first s at (bytes_of_object o) h

  pub type-read : type_at s at ≡ 1
  type-read = ap (λ (b : ℕ). b / 16) (stands_get_or s at (bytes_of_object o) h 1) ∙ type_one o.demanded

  demanded_read : demanded_at s at ≡ o.demanded
  demanded_read = ap (λ (b : ℕ). eqb (b / 2 % 2) 1) (stands_get_or s at (bytes_of_object o) h 1) ∙ p-read o.demanded

  pub size-read : 4 + length o.body < 65536 → size_at s at ≡ 4 + length o.body
  unfolding bytes_of
  size-read short =
      stands_number s at (bytes_of_object o) h 2 2
      ∙ number_shift 2 (o.class ∷ (16 + 2 * mark o.demanded) ∷ []) (bytes_of 2 (4 + length o.body) ++ o.body ++ h.after) 0
      ∙ number-bytes_of 2 (4 + length o.body) (o.body ++ h.after) short

  -- the class alone tells whether it is an object of a class
  pub object_read : (c : ℕ) → is_object c s at ≡ eqb o.class c && true
  object_read c = ap₂ (λ (x y : ℕ). eqb x c && eqb y 1) class-read type-read

  -- what stands behind its header
  pub body-read : (n : ℕ) → n ≡ length o.body → part s (at + 4) n ≡ o.body
  unfolding bytes_of
  body-read n e = stands_part s at (bytes_of_object o) h 4 n ∙ take_at o.body h.after n (sym e)

module _ (k : MessageKind) (s : List ℕ) where
  pub object_passes : (at : ℕ) (o : Object) → Stands s at (bytes_of_object o) → RightObject k o → object_verdict k s at ≡ Pass
  unfolding object_verdict
  object_passes at o h r =
      let size : size_at s at ≡ 4 + length o.body = size-read s at o h r.short in
      let inside : at + (4 + length o.body) ≤ length s = omega (arith, stands_inside s at (bytes_of_object o) h, object_length o) in
      rw (le-ltb (length s) (at + 4) (omega arith), size, le-ltb (4 + length o.body) 4 (omega arith), r.padded, le-ltb (length s) (at + (4 + length o.body)) inside, class-read s at o h, type-read s at o h, r.own, demanded_read s at o h, r.welcome)

  onward : (at : ℕ) (o : Object) → Stands s at (bytes_of_object o) → RightObject k o → after_object s at ≡ at + length (bytes_of_object o)
  onward at o h r = ap (λ (n : ℕ). at + n) (size-read s at o h r.short ∙ sym (object_length o))

  long : (o : Object) → RightObject k o → 0 < length (bytes_of_object o)
  long o r = omega (arith, object_length o)

  module _ (at : ℕ) (os : List Object) (row : Row bytes_of_object s at os) (right : Each (RightObject k) os) where
    pub objects_pass : objects_verdict k s at ≡ Pass
    objects_pass = checked_row bytes_of_object s (RightObject k) (object_verdict k s) (after_object s) object_passes onward long (length s - at) at os row right

    pub objects-placed : objects_in s at ≡ offsets bytes_of_object at os
    objects-placed =
        places_row bytes_of_object s (RightObject k) (object_verdict k s) (after_object s) object_passes onward long (length s - at) at os row right (omega arith)

-- ---- a whole message

abbrev pub message : MessageKind → List Object → List ℕ
message k os = header_bytes k (4 + length (each bytes_of_object os)) ++ each bytes_of_object os

pub message_length_lem : (k : MessageKind) (os : List Object) → length (message k os) ≡ 4 + length (each bytes_of_object os)
unfolding bytes_of
message_length_lem k os = omega arith

objects-padded : (k : MessageKind) (os : List Object) → Each (RightObject k) os → length (each bytes_of_object os) % 4 ≡ 0
unfolding each
objects-padded k [] r = refl
objects-padded k (o ∷ os) r =
    omega (arith, length-append (bytes_of_object o) (each bytes_of_object os), object_length o, r.0.padded, objects-padded k os r.1)

module _ (k : MessageKind) (os : List Object) (right : Each (RightObject k) os) where
  pub message_row : Row bytes_of_object (message k os) 4 os
  unfolding bytes_of
  message_row = in_a_row bytes_of_object (header_bytes k (4 + length (each bytes_of_object os))) os

  pub header-right : 4 + length (each bytes_of_object os) < 65536 → header_wrong k (message k os) ≡ false
  header-right short =
      let n = 4 + length (each bytes_of_object os) in
      let size : number 2 (message k os) 2 ≡ n =
      number_shift 2 (32 ∷ type_number k ∷ []) (bytes_of 2 n ++ each bytes_of_object os) 0 ∙ number-bytes_of 2 n (each bytes_of_object os) short in
      let whole = message_length_lem k os in
      let four : n % 4 ≡ 0 = omega (arith, objects-padded k os right) in
      rw (le-ltb (length (message k os)) 4 (omega arith), eq-eqb (type_number k) (type_number k) refl, size, whole, eq-eqb n n refl, four)

  pub first_read : (c : ℕ) → first_object c (message k os) ≡ first_at bytes_of_object (λ (o : Object). eqb o.class c && true) 4 os
  unfolding first_object
  first_read c =
      ap (first_of (is_object c (message k os))) (objects-placed k (message k os) 4 os message_row right)
      ∙ first-row bytes_of_object (message k os) (RightObject k) (is_object c (message k os)) (λ (o : Object). eqb o.class c && true)
      (λ at o h r. object_read (message k os) at o h c)
      4 os message_row right
