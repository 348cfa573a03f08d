-- One subobject of an ERO's body, check by check: which refusal it is once the checks before have passed, and what a right one says of its bytes.
-- By putting the type into the definition.
use mathlib.Core.Path.{◌≡◌, refl, ap, ◌∙◌}
use mathlib.Core.Bool.{Bool, true, false, not, ◌||◌, or-false}
use mathlib.Core.List.{List}
use Prim.Native.Nat.{ℕ, ◌+◌, ◌*◌, ◌≤◌, ◌<◌}
use native.Mathlib.Omega.{arith}
use lib.Dec.{eqb, ltb}
use lib.ListN.{length, get_or}
use borrow.Author.Tests.{ne_eqb, le-leb, lt-leb, lt-ltb, le-ltb}
use Rattle.model.specs.declared.ListKind.TheVariants.{Include}
use Rattle.model.specs.Verdict.{Verdict, Pass, refuse_if, ◌and_then◌}
use Rattle.model.specs.Subobject.{rounded_up, known, length_fits, type_at, top_at, length_at, area_length_at, field_wrong, plain_verdict}
use Rattle.refusal.specs.Refused.{refusal}
use Rattle.pcep_model.specs.Pcrep.{step_verdict}

-- type 1 is known, and its length is 8
known_1 : known Include 1 ≡ true
unfolding known
known_1 = refl

pub fits_1 : (a n : ℕ) → length_fits Include 1 a n ≡ eqb n 8
unfolding length_fits
fits_1 a n = let e : 8 + 0 * rounded_up a ≡ 8 = omega arith in or-false (eqb n (8 + 0 * rounded_up a)) ∙ ap (eqb n) e

-- of the last check only type 1's part counts
type_1 : (x : Bool) → (x || false || false || false) ≡ x
type_1 true = refl
type_1 false = refl

-- the checks of a subobject of type 1 behind that of its head: t L set, f the right length, p past the end, x a wrong prefix length
abbrev behind : Bool → Bool → Bool → Bool → ℕ → Verdict
behind t f p x at = refuse_if t 27 at and_then refuse_if (not f) 25 at and_then refuse_if p 23 at and_then refuse_if x 26 at

-- there is no area length to check
no_area : (t f p x : Bool) (at : ℕ) → refuse_if t 27 at and_then Pass and_then refuse_if (not f) 25 at and_then refuse_if p 23 at and_then refuse_if x 26 at ≡ behind t f p x at
no_area true f p x at = refl
no_area false f p x at = refl

module _ (e : List ℕ) (at : ℕ) where
  pub short : length e < at + 4 → step_verdict e at ≡ refusal 23 at
  unfolding step_verdict plain_verdict
  short h = rw (lt-leb (at + 4) (length e) h, lt-ltb (length e) (at + 4) h) refl

  module _ (long : at + 4 ≤ length e) where
    pub other-type : (type_at e at ≡ 1 → ⊥) → step_verdict e at ≡ refusal 24 at
    unfolding step_verdict
    other-type d = rw (le-leb (at + 4) (length e) long, ne_eqb (type_at e at) 1 d) refl

    module _ (one : type_at e at ≡ 1) where
      -- past the type: L, the length, the end, the prefix length
      judged : step_verdict e at ≡ behind (top_at e at) (eqb (length_at e at) 8) (ltb (length e) (at + length_at e at)) (not (eqb (get_or e (at + 6) 0) 32)) at
      unfolding step_verdict plain_verdict field_wrong
      judged =
          rw (one, le-leb (at + 4) (length e) long, le-ltb (length e) (at + 4) long, known_1, fits_1 (area_length_at e at) (length_at e at), type_1 (not (eqb (get_or e (at + 6) 0) 32)))
          (no_area (top_at e at) (eqb (length_at e at) 8) (ltb (length e) (at + length_at e at)) (not (eqb (get_or e (at + 6) 0) 32)) at)

      pub top_set : 128 ≤ get_or e at 0 → step_verdict e at ≡ refusal 27 at
      top_set h = judged ∙ rw (le-leb 128 (get_or e at 0) h) refl

      module _ (clear : get_or e at 0 < 128) where
        pub other_length : (length_at e at ≡ 8 → ⊥) → step_verdict e at ≡ refusal 25 at
        other_length d = judged ∙ rw (lt-leb 128 (get_or e at 0) clear, ne_eqb (length_at e at) 8 d) refl

        module _ (eight : length_at e at ≡ 8) where
          pub past_end : length e < at + 8 → step_verdict e at ≡ refusal 23 at
          past_end h = judged ∙ rw (lt-leb 128 (get_or e at 0) clear, eight, lt-ltb (length e) (at + 8) h) refl

          module _ (whole : at + 8 ≤ length e) where
            pub other-prefix : (get_or e (at + 6) 0 ≡ 32 → ⊥) → step_verdict e at ≡ refusal 26 at
            other-prefix d = judged ∙ rw (lt-leb 128 (get_or e at 0) clear, eight, le-ltb (length e) (at + 8) whole, ne_eqb (get_or e (at + 6) 0) 32 d) refl

            pub right : get_or e (at + 6) 0 ≡ 32 → step_verdict e at ≡ Pass
            right h = judged ∙ rw (lt-leb 128 (get_or e at 0) clear, eight, le-ltb (length e) (at + 8) whole, h) refl
