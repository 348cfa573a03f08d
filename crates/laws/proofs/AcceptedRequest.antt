-- What acceptance says of a request: every check before the meaning of its include list passes, that meaning is the sequence, and a sequence has 1 to 16 domains.
-- By cases on the verdict, and by what a reading keeps.
use Rattle.std.specs.Prelude.{Ok, Err}
use mathlib.Core.Path.{◌≡◌, refl, sym, ap₂, ◌∙◌}
use mathlib.Core.Bool.{true, not, ◌&&◌}
use mathlib.Core.List.{List}
use Prim.Native.Nat.{ℕ, ◌≤◌, ◌<◌}
use native.Mathlib.Omega.{arith}
use lib.ListN.{length, length-append}
use lib.Dec.{leb, ltb}
use borrow.Author.Tests.{leb-false, ltb-false, not-false}
use Rattle.model.specs.Verdict.{Verdict, Pass}
use Rattle.model.specs.declared.ListKind.TheVariants.{Include, Exclude}
use Rattle.model.specs.Profile.{domain_count, profile_verdict}
use Rattle.model.specs.Subobject.{form_verdict}
use Rattle.model.specs.Floats.{in_range}
use Rattle.model.specs.Sequence.{Stop, ReadingInput, Reading, good, meaning}
use Rattle.model.specs.Request.{Request, layout_for, limits_verdict, reading_input, provided, request_verdict, sequence_of, Accepted, size_verdict, sizes_verdict, forms_verdict, request_verdict_with}
use Rattle.laws.proofs.Tests.{and-false}
use Rattle.laws.proofs.Turns.{refuse_if_pass, and_then-refuse_if, and_then_pass}
use Rattle.laws.proofs.ReadingKeeps.{refused-good, meaning_keeps}

provided-good : {A : Type 0} (v : Verdict) (reading : Reading A) (x : A) → provided v reading ≡ good x → (v ≡ Pass) × (reading ≡ good x)
provided-good (Ok _) reading x e = (refl, e)
provided-good (Err r) reading x e = refused-good r x e

pub accepted-verdict : (r : Request) (sequence : List Stop) → Accepted r sequence → request_verdict r ≡ Pass
unfolding sequence_of
accepted-verdict r sequence e = (provided-good (request_verdict r) (meaning (reading_input r.profile) r.ingress r.include) sequence e).0

pub accepted-meaning : (r : Request) (sequence : List Stop) → Accepted r sequence → meaning (reading_input r.profile) r.ingress r.include ≡ good sequence
unfolding sequence_of
accepted-meaning r sequence e = (provided-good (request_verdict r) (meaning (reading_input r.profile) r.ingress r.include) sequence e).1

-- what each check before the meaning says
pub record PassedRequest (r : Request) : Type 0 where
  pub profile : profile_verdict (layout_for r) r.profile ≡ Pass
  pub ingress : r.ingress < domain_count r.profile
  pub bandwidth : in_range r.limits.bandwidth ≡ true
  pub bound : r.limits.bounded ≡ true → in_range r.limits.bound ≡ true
  pub include-size : length r.include ≤ 1024
  pub exclude-size : length r.exclude ≤ 1024
  pub include-form : form_verdict Include r.include ≡ Pass
  pub exclude-form : form_verdict Exclude r.exclude ≡ Pass

pub sizes-fit : (include exclude : List ℕ) → sizes_verdict include exclude ≡ Pass → (length include ≤ 1024) × (length exclude ≤ 1024)
sizes-fit include exclude e =
    let both = (and_then-refuse_if (size_verdict include 0) (ltb 1024 (length exclude)) 22 1).0 e in
    (ltb-false _ _ ((refuse_if_pass (ltb 1024 (length include)) 22 0).0 both.0), ltb-false _ _ both.1)

-- with the checks of a reply beside the request, which pass too
pub passed_with : (metrics ero : Verdict) (r : Request) → request_verdict_with metrics ero r ≡ Pass → PassedRequest r × (metrics ≡ Pass) × (ero ≡ Pass)
passed_with metrics ero r e =
    let l = r.limits in
    let six = (and_then_pass _ ero).0 e in
    let five = (and_then_pass _ (forms_verdict r.include r.exclude)).0 six.0 in
    let form = (and_then_pass (form_verdict Include r.include) (form_verdict Exclude r.exclude)).0 five.1 in
    let four = (and_then_pass _ (sizes_verdict r.include r.exclude)).0 five.0 in
    let size = sizes-fit r.include r.exclude four.1 in
    let three = (and_then_pass _ metrics).0 four.0 in
    let two = (and_then_pass _ (limits_verdict l)).0 three.0 in
    let floats = (and_then-refuse_if _ (l.bounded && not (in_range l.bound)) 21 1).0 two.1 in
    let one = (and_then-refuse_if (profile_verdict (layout_for r) r.profile) (leb (domain_count r.profile) r.ingress) 20 0).0 two.0 in
    let is : PassedRequest r = record {
      profile = one.0;
      ingress = leb-false _ _ one.1;
      bandwidth = not-false _ ((refuse_if_pass (not (in_range l.bandwidth)) 21 0).0 floats.0);
      bound = λ counts. not-false _ (and-false l.bounded (not (in_range l.bound)) floats.1 counts);
      include-size = size.0;
      exclude-size = size.1;
      include-form = form.0;
      exclude-form = form.1;
    } in
    (is, three.1, six.1)

pub passed-request : (r : Request) → request_verdict r ≡ Pass → PassedRequest r
unfolding request_verdict
passed-request r e = (passed_with Pass Pass r e).0

-- what passes with a reply's checks passes alone
pub passes-alone : (metrics ero : Verdict) (r : Request) → request_verdict_with metrics ero r ≡ Pass → request_verdict r ≡ Pass
unfolding request_verdict
passes-alone metrics ero r e = let p = passed_with metrics ero r e in sym (ap₂ (λ (m x : Verdict). request_verdict_with m x r) p.1 p.2) ∙ e

pub accepted-profile : (r : Request) (sequence : List Stop) → Accepted r sequence → profile_verdict (layout_for r) r.profile ≡ Pass
accepted-profile r sequence e = (passed-request r (accepted-verdict r sequence e)).profile

-- ---- a sequence has 1 to 16 domains

pub meaning-fits : (R : ReadingInput) (ingress : ℕ) (list : List ℕ) (sequence : List Stop) → meaning R ingress list ≡ good sequence → (1 ≤ length sequence) × (length sequence ≤ 16)
meaning-fits R ingress list sequence e =
    meaning_keeps R (λ (s : List Stop). (1 ≤ length s) × (length s ≤ 16)) (λ s d waiting h l new few. simp length-append (omega arith)) ingress list sequence (omega arith) e

pub accepted-length : (r : Request) (sequence : List Stop) → Accepted r sequence → (1 ≤ length sequence) × (length sequence ≤ 16)
accepted-length r sequence e = meaning-fits (reading_input r.profile) r.ingress r.include sequence (accepted-meaning r sequence e)
