-- The check of an object by what the code reads of it: what it is, its length, what is left, and P.
use Prim.Native.Nat.{ℕ, ◌+◌, ◌-◌, ◌%◌, ◌≤◌, ◌<◌}
use native.Mathlib.Omega.{arith}
use mathlib.Core.Path.{◌≡◌, refl, sym, ap, ap₂, ◌∙◌}
use mathlib.Core.Logic.{⊎_elim}
use mathlib.Core.Bool.{Bool, true, false, not, cond, ◌&&◌, ◌||◌, and_comm}
use mathlib.Core.List.{List}
use lib.ListN.{length}
use lib.Dec.{eqb, ltb}
use borrow.Author.Tests.{lt-ltb, le-ltb, ltb-true, ltb-false}
use Rattle.std.specs.Prelude.{Option, None, Some}
use Rattle.std.specs.Option.{is_none}
use Rattle.model.specs.Verdict.{refuse_if, ◌and_then◌}
use Rattle.laws.proofs.Tests.{decide, not-not}
use Rattle.pcep_model.specs.declared.MessageKind.{MessageKind}
use Rattle.pcep_model.specs.Objects.{class_at, type_at, demanded_at, size_at, size_wrong, known_object, object_verdict}
use Rattle.pcep_laws.specs.Table.{least_of, fits_least}
use Rattle.pcep_laws.proofs.Table.{known_is, own_is}
use Rattle.pcep_laws.specs.Firsts.{placed}
use Rattle.pcep_message.specs.Known.{fits, class_if}
use Rattle.pcep_message.specs.Walked.{length_refused, size_refused, ObjectPassed}

same_left : (l at n : ℕ) → at ≤ l → ltb l (at + n) ≡ ltb (l - at) n
same_left l at n h =
    ⊎_elim
    (λ (t : ltb (l - at) n ≡ true). let g = ltb-true (l - at) n t in lt-ltb l (at + n) (omega arith) ∙ sym t)
    (λ (f : ltb (l - at) n ≡ false). let g = ltb-false (l - at) n f in le-ltb l (at + n) (omega arith) ∙ sym f)
    (decide (ltb (l - at) n))

-- three tests, and then one
or_last : (a b c d : Bool) → a || (b || (c || d)) ≡ (a || (b || c)) || d
or_last true b c d = refl
or_last false true c d = refl
or_last false false c d = refl

none_by : (l : ℕ) (none : Bool) → is_none (cond none None (Some l)) ≡ none
none_by l true = refl
none_by l false = refl

-- what isn't known can have any length
fits_by : (c l n : ℕ) (none : Bool) → eqb l 0 ≡ none → fits_least c l n ≡ fits c (cond none None (Some l)) n
fits_by c l n true e = rw e refl
fits_by c l n false e = rw e refl

module _ (k : MessageKind) (s : List ℕ) (at : ℕ) where
  abbrev pub least : ℕ
  least = least_of k (class_at s at) (type_at s at)

  -- fewer than 4 bytes are left
  pub short : length s < at + 4 → object_verdict k s at ≡ refuse_if true 37 at
  unfolding object_verdict
  short h = rw (lt-ltb (length s) (at + 4) h) refl

  module _ (h : at + 4 ≤ length s) (r : Option ℕ) (is : r ≡ placed least) where
    abbrev size : Bool
    size = size_refused (class_at s at) r (size_at s at) (length s - at)

    fits_same : fits_least (class_at s at) least (size_at s at) ≡ fits (class_at s at) r (size_at s at)
    fits_same = fits_by (class_at s at) least (size_at s at) (eqb least 0) refl ∙ ap (λ (o : Option ℕ). fits (class_at s at) o (size_at s at)) (sym is)

    size_same : size_wrong k s at ≡ size
    size_same =
        ap₂ (λ (x y : Bool). ltb (size_at s at) 4 || (not (eqb (size_at s at % 4) 0) || (x || not y)))
        (same_left (length s) at (size_at s at) (omega arith))
        (own_is k (class_at s at) (type_at s at) (size_at s at) ∙ fits_same)

    unknown-same : not (known_object k (class_at s at) (type_at s at)) ≡ is_none r
    unknown-same =
        ap not (known_is k (class_at s at) (type_at s at))
        ∙ not-not (eqb least 0)
        ∙ sym (ap is_none is ∙ none_by least (eqb least 0))

    -- an unknown object that is demanded
    abbrev unknown : Bool
    unknown = is_none r && demanded_at s at

    pub long : object_verdict k s at ≡ refuse_if size 37 at and_then refuse_if unknown 38 at
    unfolding object_verdict
    long = rw (le-ltb (length s) (at + 4) h, size_same, unknown-same, and_comm (demanded_at s at) (is_none r)) refl

    pub wrong-size : size ≡ true → object_verdict k s at ≡ refuse_if true 37 at
    wrong-size w = long ∙ rw w refl

    -- by a length alone, then by what the object is
    size_split : size ≡ length_refused (size_at s at) (length s - at) || not (fits (class_at s at) r (size_at s at))
    size_split = or_last (ltb (size_at s at) 4) (not (eqb (size_at s at % 4) 0)) (ltb (length s - at) (size_at s at)) (not (fits (class_at s at) r (size_at s at)))

    pub wrong-length : length_refused (size_at s at) (length s - at) ≡ true → object_verdict k s at ≡ refuse_if true 37 at
    wrong-length w = wrong-size (size_split ∙ rw w refl)

    pub size-left : length_refused (size_at s at) (length s - at) ≡ false → (b : Bool) → fits (class_at s at) r (size_at s at) ≡ b → size ≡ not b
    size-left f b e = size_split ∙ rw (f, e) refl

    module _ (right : size ≡ false) where
      pub demanded-refused : unknown ≡ true → object_verdict k s at ≡ refuse_if true 38 at
      demanded-refused u = long ∙ rw (right, u) refl

      pub object-passes : unknown ≡ false → (n : ℕ) → n ≡ size_at s at → ObjectPassed k s at (record { class = class_if r (class_at s at); next = at + n })
      object-passes u n e = record { verdict = long ∙ rw (right, u) refl; class-is = ap (λ (o : Option ℕ). class_if o (class_at s at)) is; next-is = ap (λ (x : ℕ). at + x) e }
