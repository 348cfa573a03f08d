-- When a sequence can't be written: by what the lists say beside the domain count, and then by their EXRS and the list's length.
use Prim.Native.Nat.{ℕ, ◌<◌}
use mathlib.Core.Path.{◌≡◌, sym, ap, ◌∙◌}
use mathlib.Core.Bool.{Bool, true, false, not, ◌||◌}
use mathlib.Core.List.{List}
use native.Mathlib.Omega.{arith}
use lib.Dec.{eqb, leb, ltb}
use lib.ListN.{length}
use borrow.Author.Tests.{ltb-false, lt-ltb}
use Rattle.model.specs.Verdict.{Pass}
use Rattle.model.specs.Lists.{any, all_different}
use Rattle.model.specs.Profile.{domain_count, domains, verdict_on}
use Rattle.model.specs.Sequence.{Stop}
use Rattle.model.specs.WrittenList.{first_marked, whole_exrs, stops, written, unfit, unwritable}
use Rattle.laws.proofs.Tests.{or_right, or_neither}
use Rattle.laws.proofs.Records.{length-domains}
use Rattle.laws.proofs.WrittenSizes.{Together, together, exrs-within}
use Rattle.list_writer.specs.Writing.{no_sequence, Fitting, some_part_broken}
use Rattle.list_writer.proofs.Stretches.{sequence_broken}

module _ (profile indexes marks nodes counts exrs : List ℕ) (count : ℕ) (counted : count ≡ domain_count profile) where
  abbrev asked : Bool
  asked = no_sequence count indexes marks nodes counts exrs

  abbrev broken : Bool
  broken = any (λ (p : Stop). not (whole_exrs p.exrs)) (stops indexes marks nodes counts exrs)

  abbrev long : Bool
  long = ltb 1024 (length (written (domains profile) (stops indexes marks nodes counts exrs)))

  parts : unwritable (domains profile) indexes marks nodes counts exrs ≡ asked || broken || long
  unfolding unwritable
  parts = ap (λ (k : ℕ). no_sequence k indexes marks nodes counts exrs || broken || long) (length-domains profile ∙ sym counted)

  pub by_lists : asked ≡ true → unwritable (domains profile) indexes marks nodes counts exrs ≡ true
  by_lists e = parts ∙ ap (λ (b : Bool). b || broken || long) e

  module _ (right : asked ≡ false) where
    left_over : unwritable (domains profile) indexes marks nodes counts exrs ≡ broken || long
    left_over = parts ∙ ap (λ (b : Bool). b || broken || long) right

    -- what the lists' tests leave, up to that of the indexes
    in_front : ((eqb (length indexes) 0 || ltb 16 (length indexes) || unfit indexes marks nodes counts exrs) ≡ false) × (any (λ (d : ℕ). leb count d) indexes ≡ false)
    in_front =
        let a = or_neither _ (first_marked counts) right in
        let b = or_neither _ (first_marked marks) a.0 in
        let c = or_neither _ (any (λ (m : ℕ). ltb 1 m) marks) b.0 in
        let d = or_neither _ (not (all_different indexes)) c.0 in
        or_neither (eqb (length indexes) 0 || ltb 16 (length indexes) || unfit indexes marks nodes counts exrs) (any (λ (d : ℕ). leb count d) indexes) d.0

    fits : unfit indexes marks nodes counts exrs ≡ false
    fits = (or_neither (eqb (length indexes) 0 || ltb 16 (length indexes)) (unfit indexes marks nodes counts exrs) in_front.0).1

    pub joined : Together indexes marks nodes counts exrs
    joined = together indexes marks nodes counts exrs fits

    pub fitting : verdict_on profile ≡ Pass → Fitting profile indexes marks nodes counts exrs
    fitting a =
        let few = or_neither (eqb (length indexes) 0) (ltb 16 (length indexes)) (or_neither (eqb (length indexes) 0 || ltb 16 (length indexes)) (unfit indexes marks nodes counts exrs) in_front.0).0 in
        record {
          accepted = a;
          most = ltb-false 16 (length indexes) few.1;
          fit = fits;
          in_profile = ap (λ (k : ℕ). any (λ (d : ℕ). leb k d) indexes) (length-domains profile ∙ sym counted) ∙ in_front.1;
        }

    pub long-exrs : 1024 < length exrs → unwritable (domains profile) indexes marks nodes counts exrs ≡ true
    long-exrs h =
        let size = exrs-within (domains profile) indexes marks nodes counts exrs joined in
        left_over ∙ or_right broken long (lt-ltb 1024 (length (written (domains profile) (stops indexes marks nodes counts exrs))) (omega arith))

    pub by_parts : (b : Bool) → some_part_broken counts exrs ≡ b → unwritable (domains profile) indexes marks nodes counts exrs ≡ b || long
    by_parts b f = left_over ∙ ap (λ (x : Bool). x || long) (sequence_broken joined ∙ f)
