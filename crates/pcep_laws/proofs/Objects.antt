-- The objects of a message in turn, as a loop meets them: what a right object says of its bytes, and the first one that passes a test, found step by step.
-- From the laws of a walk along things.
use Rattle.std.specs.Prelude.{Option, None, Some}
use Rattle.std.specs.Option.{option_or}
use Prim.Native.Nat.{ℕ, ◌+◌, ◌%◌, ◌≤◌, ◌<◌}
use native.Mathlib.Omega.{arith}
use mathlib.Core.Path.{◌≡◌, refl, sym, ap}
use mathlib.Core.Bool.{Bool, true, false, not, ◌&&◌, ◌||◌}
use mathlib.Core.List.{List}
use lib.ListN.{length}
use lib.Dec.{eqb, ltb}
use borrow.Author.Tests.{ltb-false, ne_eqb, not-false}
use Rattle.laws.proofs.Tests.{or_neither}
use Rattle.laws.proofs.Turns.{and_then-refuse_if, refuse_if_pass}
use Rattle.pcep_model.specs.declared.MessageKind.{MessageKind}
use Rattle.model.specs.Verdict.{Pass}
use Rattle.model.specs.Along.{or_else, first_of}
use Rattle.pcep_model.specs.Objects.{class_at, type_at, demanded_at, size_at, size_wrong, known_object, own_length, object_verdict, after_object, objects_verdict, objects_in}
use Rattle.pcep_laws.specs.Firsts.{placed, noted}
use Rattle.laws.proofs.Along as Along

-- its header lies inside the message, and so does all of it, and its length is its own
pub record Right (k : MessageKind) (s : List ℕ) (at : ℕ) : Type 0 where
  pub head : at + 4 ≤ length s
  pub long : 4 ≤ size_at s at
  pub inside : at + size_at s at ≤ length s
  pub own : own_length k (class_at s at) (type_at s at) (size_at s at) ≡ true

module _ (k : MessageKind) (s : List ℕ) where
  pub right_object : (at : ℕ) → object_verdict k s at ≡ Pass → Right k s at
  unfolding object_verdict
  right_object at e =
      let n = size_at s at in
      let own = own_length k (class_at s at) (type_at s at) n in
      let two = (and_then-refuse_if _ (demanded_at s at && not (known_object k (class_at s at) (type_at s at))) 38 at).0 e in
      let one = (and_then-refuse_if _ (size_wrong k s at) 37 at).0 two.0 in
      let a = or_neither (ltb n 4) (not (eqb (n % 4) 0) || (ltb (length s) (at + n) || not own)) one.1 in
      let b = or_neither (not (eqb (n % 4) 0)) (ltb (length s) (at + n) || not own) a.1 in
      let c = or_neither (ltb (length s) (at + n)) (not own) b.1 in
      record {
        head = ltb-false (length s) (at + 4) ((refuse_if_pass (ltb (length s) (at + 4)) 37 at).0 one.0);
        long = ltb-false n 4 a.0;
        inside = ltb-false (length s) (at + n) c.0;
        own = not-false own c.1;
      }

  pub further : (at : ℕ) → object_verdict k s at ≡ Pass → at < after_object s at
  further at e = let r = right_object at e in omega arith

  -- ---- what is left from an offset on

  module _ (test : ℕ → Bool) where
    -- none is left at the end
    pub first_end : (at : ℕ) → length s ≤ at → first_of test (objects_in s at) ≡ 0
    unfolding first_of
    first_end at h = ap (first_of test) (Along.places-end (after_object s) (length s) (object_verdict k s) further at h)

    -- the object at hand, or the first of those after it
    pub first_next : (at : ℕ) → at < length s → objects_verdict k s at ≡ Pass → first_of test (objects_in s at) ≡ or_else (test at) at (first_of test (objects_in s (after_object s at)))
    unfolding first_of
    first_next at h e = ap (first_of test) (Along.places_next (after_object s) (length s) (object_verdict k s) further at h e)

-- ---- the first place met so far, and then the first of those to come

pub noted-kept : (a : Option ℕ) (at later : ℕ) → 0 < at → (hit : Bool) → option_or (noted hit a at) (placed later) ≡ option_or a (placed (or_else hit at later))
noted-kept None at later h true = sym (rw (ne_eqb at 0 (λ x. omega arith)) refl)
noted-kept (Some x) at later h true = refl
noted-kept a at later h false = refl

-- nothing more to come
pub none-to_come : (a : Option ℕ) → option_or a None ≡ a
none-to_come None = refl
none-to_come (Some x) = refl
