-- The EXRS of a stretch of an include list, subobject by subobject, and those of a sequence, domain by domain: those passed and those left are all of them, and they
-- have no more bytes than the stretch. By what a walk says of the subobject at hand.
use Prim.Native.Nat.{ℕ, zero, suc, ◌+◌, ◌-◌, ◌≤◌, ◌<◌}
use native.Mathlib.Omega.{arith}
use mathlib.Core.Path.{◌≡◌, refl, sym, ap, ◌∙◌}
use mathlib.Core.Logic.{⊎_elim}
use mathlib.Core.Bool.{true, false}
use mathlib.Core.List.{List, [], ◌∷◌, ◌++◌, append-nil, append_assoc}
use lib.ListN.{length, get_or, take, drop, length-append, length-drop, take-append-drop}
use lib.Seq.{length-take-le, take-suc}
use lib.Dec.{eqb, ltb}
use borrow.Author.Tests.{eqb-true, ltb-true, ltb-false}
use Rattle.model.specs.Verdict.{Pass}
use Rattle.model.specs.declared.ListKind.TheVariants.{Include}
use Rattle.model.specs.Lists.{each}
use Rattle.model.specs.Bytes.{part}
use Rattle.model.specs.Subobject.{Subobject, type_at, length_at, subobject_verdict, named_at, after_subobject}
use Rattle.model.specs.Sequence.{Stop}
use Rattle.model.specs.Calls.{all_exrs}
use Rattle.model.specs.Path.{no_stop}
use Rattle.laws.specs.Exrs.{bytes_named, exrs_in, Stretch}
use Rattle.laws.proofs.Tests.{decide}
use Rattle.laws.proofs.Lists.{each_append}
use Rattle.laws.proofs.Exrs.{named_33, no_33}
use Rattle.laws.proofs.Walk.{right_subobject, right_here, right_next, subobjects_next, subobjects-end}
use Rattle.laws.proofs.Waiting.{empty_stretch, exrs_join, stretch-alone, exrs-alone, stretch_on}

-- ---- the subobject at an offset

pub bytes_of_33 : (s : List ℕ) (at : ℕ) → type_at s at ≡ 33 → bytes_named (named_at s at) ≡ part s at (length_at s at)
bytes_of_33 s at e = ap bytes_named (named_33 s at e)

pub bytes_of_others : (s : List ℕ) (at : ℕ) → eqb (type_at s at) 33 ≡ false → bytes_named (named_at s at) ≡ []
bytes_of_others = no_33 bytes_named (λ a n. refl) (λ n. refl) (λ a. refl)

-- ---- a stretch

module _ (s : List ℕ) where
  pub no_exrs : (at end : ℕ) → end ≤ at → exrs_in s at end ≡ []
  unfolding exrs_in each
  no_exrs at end h = ap (each (λ (x : Subobject). bytes_named x.names)) (subobjects-end s end at h)

  module _ (at to : ℕ) (h : at < to) (left : Stretch s at to) where
    pub right_there : subobject_verdict Include s to at ≡ Pass
    right_there = right_here Include s to at h left.right

    pub stretch-after : Stretch s (after_subobject s at) to
    stretch-after =
        record {
          order = (right_subobject Include s to at right_there).whole;
          inside = left.inside;
          right = right_next Include s to at h left.right;
        }

    pub exrs_first : exrs_in s at to ≡ bytes_named (named_at s at) ++ exrs_in s (after_subobject s at) to
    unfolding exrs_in each
    exrs_first = ap (each (λ (x : Subobject). bytes_named x.names)) (subobjects_next Include s to at h left.right)

    pub bytes-few : length (bytes_named (named_at s at)) ≤ length_at s at
    bytes-few =
        let r = right_subobject Include s to at right_there in
        ⊎_elim
        (λ (t : eqb (type_at s at) 33 ≡ true).
        omega (arith, r.whole, left.inside, length-drop at s, ap length (bytes_of_33 s at (eqb-true (type_at s at) 33 t)), length-take-le (length_at s at) (drop at s) (omega (arith, r.whole, left.inside, length-drop at s))))
        (λ (f : eqb (type_at s at) 33 ≡ false). omega (arith, ap length (bytes_of_others s at f)))
        (decide (eqb (type_at s at) 33))

  few_from : (fuel at to : ℕ) → to ≤ at + fuel → Stretch s at to → length (exrs_in s at to) ≤ to - at
  few_from zero at to h left = omega (arith, ap length (no_exrs at to (omega arith)))
  few_from (suc fuel) at to h left =
      ⊎_elim
      (λ (t : ltb at to ≡ true).
      let l = ltb-true at to t in
      let r = right_subobject Include s to at (right_there at to l left) in
      let later = few_from fuel (after_subobject s at) to (omega (arith, r.long)) (stretch-after at to l left) in
      omega (arith, r.whole, bytes-few at to l left, ap length (exrs_first at to l left), length-append (bytes_named (named_at s at)) (exrs_in s (after_subobject s at) to)))
      (λ (f : ltb at to ≡ false). omega (arith, ap length (no_exrs at to (ltb-false at to f))))
      (decide (ltb at to))

  -- no more bytes than the stretch has
  pub exrs-few : (from to : ℕ) → Stretch s from to → length (exrs_in s from to) ≤ to - from
  exrs-few from to = few_from to from to (omega arith)

  -- how far a walk along a stretch is
  pub record Passed (from to at : ℕ) : Type 0 where
    pub so_far : Stretch s from at
    pub left : Stretch s at to
    pub all : exrs_in s from to ≡ exrs_in s from at ++ exrs_in s at to

  pub none_passed : (from to : ℕ) → Stretch s from to → Passed from to from
  none_passed from to whole =
      record {
        so_far = empty_stretch s from (omega (arith, whole.order, whole.inside));
        left = whole;
        all = sym (ap {B = List ℕ} (λ (l : List ℕ). l ++ exrs_in s from to) (no_exrs from from (omega arith)));
      }

  module _ (from to at : ℕ) (p : Passed from to at) (h : at < to) where
    -- those passed, with the subobject at hand
    pub exrs_on : exrs_in s from (after_subobject s at) ≡ exrs_in s from at ++ bytes_named (named_at s at)
    exrs_on =
        exrs_join s from at (after_subobject s at) p.so_far (stretch-alone s at to p.left.inside (right_there at to h p.left))
        ∙ ap {B = List ℕ} (λ (l : List ℕ). exrs_in s from at ++ l) (exrs-alone s at to p.left.inside (right_there at to h p.left))

    pub one_passed : Passed from to (after_subobject s at)
    one_passed =
        record {
          so_far = stretch_on s at to p.left.inside (right_there at to h p.left) from p.so_far;
          left = stretch-after at to h p.left;
          all =
              p.all
              ∙ ap {B = List ℕ} (λ (l : List ℕ). exrs_in s from at ++ l) (exrs_first at to h p.left)
              ∙ sym (append_assoc (exrs_in s from at) (bytes_named (named_at s at)) (exrs_in s (after_subobject s at) to))
              ∙ ap {B = List ℕ} (λ (l : List ℕ). l ++ exrs_in s (after_subobject s at) to) (sym exrs_on);
        }

    -- they are not more than all
    pub exrs-fit : length (exrs_in s from at) + length (bytes_named (named_at s at)) ≤ length (exrs_in s from to)
    exrs-fit =
        omega (
          arith,
          length-append (exrs_in s from at) (bytes_named (named_at s at)),
          ap length exrs_on,
          ap length one_passed.all,
          length-append (exrs_in s from (after_subobject s at)) (exrs_in s (after_subobject s at) to),
        )

-- ---- a sequence

module _ (sequence : List Stop) where
  -- the EXRS of the domains before place i
  abbrev pub exrs_before : ℕ → List ℕ
  exrs_before i = all_exrs (take i sequence)

  pub before_none : exrs_before 0 ≡ []
  unfolding all_exrs each
  before_none = refl

  pub before_next : (i : ℕ) → i < length sequence → exrs_before (suc i) ≡ exrs_before i ++ (get_or sequence i no_stop).exrs
  unfolding all_exrs each
  before_next i h =
      ap all_exrs (take-suc sequence i no_stop h)
      ∙ each_append (λ (p : Stop). p.exrs) (take i sequence) (get_or sequence i no_stop ∷ [])
      ∙ ap {B = List ℕ} (λ (l : List ℕ). exrs_before i ++ l) (append-nil (get_or sequence i no_stop).exrs)

  pub before-few : (i : ℕ) → length (exrs_before i) ≤ length (all_exrs sequence)
  unfolding all_exrs
  before-few i =
      omega (
        arith,
        ap (λ (l : List Stop). length (all_exrs l)) (take-append-drop i sequence),
        ap length (each_append (λ (p : Stop). p.exrs) (take i sequence) (drop i sequence)),
        length-append (all_exrs (take i sequence)) (all_exrs (drop i sequence)),
      )
