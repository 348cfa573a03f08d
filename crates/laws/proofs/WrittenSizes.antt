-- How long the parts of a written list are: lent lists that fit together give the domain at each place as many bytes of EXRS as its count says, and what is written
-- for them is at least as long as all their EXRS; and whether bytes are only EXRS, told one subobject at a time. From the sums of the counts, and by recursion along the
-- sequence.
use Prim.Native.Nat.{ℕ, suc, ◌+◌, ◌≤◌, ◌<◌}
use native.Mathlib.Omega.{arith}
use mathlib.Core.Path.{◌≡◌, refl, ap, ◌∙◌}
use mathlib.Core.Bool.{Bool, true, false, not, ◌&&◌}
use mathlib.Core.List.{List, [], ◌∷◌, ◌++◌}
use mathlib.Core.Option.{Option, none, some}
use lib.ListN.{length, get_or, drop, length-append, length-drop}
use lib.Seq.{length-take-le}
use lib.Dec.{eqb}
use borrow.Author.Tests.{eqb-true, ne_eqb, not-false}
use Rattle.model.specs.Verdict.{Pass}
use Rattle.model.specs.declared.Domain.{Domain}
use Rattle.model.specs.declared.ListKind.TheVariants.{Include}
use Rattle.model.specs.Lists.{all, each, sum}
use Rattle.model.specs.Subobject.{Named, Subobject, type_at, named_at, after_subobject, form_from, subobjects_from}
use Rattle.model.specs.Sequence.{Stop, domain_of}
use Rattle.model.specs.WrittenList.{written_pin, system_after, written_area, written_stop, written_from, written, stops, is_exrs, unfit}
use Rattle.model.specs.Calls.{all_exrs}
use Rattle.laws.proofs.Tests.{or_neither}
use Rattle.laws.proofs.Walk.{subobjects_next, subobjects-end}
use Rattle.laws.proofs.Exrs.{named_33, no_33}
use Rattle.laws.proofs.Stops.{bytes_before, bytes_next, bytes_most, exrs_at, stops-exrs}

-- ---- lists that fit together

pub record Together (indexes marks nodes counts exrs : List ℕ) : Type 0 where
  pub as_many_marks : length marks ≡ length indexes
  pub as_many_nodes : length nodes ≡ length indexes
  pub as_many_counts : length counts ≡ length indexes
  pub all_bytes : sum counts ≡ length exrs

pub together : (indexes marks nodes counts exrs : List ℕ) → unfit indexes marks nodes counts exrs ≡ false → Together indexes marks nodes counts exrs
unfolding unfit
together indexes marks nodes counts exrs e =
    let c = or_neither _ (not (eqb (sum counts) (length exrs))) e in
    let b = or_neither _ (not (eqb (length counts) (length indexes))) c.0 in
    let a = or_neither (not (eqb (length marks) (length indexes))) (not (eqb (length nodes) (length indexes))) b.0 in
    record {
      as_many_marks = eqb-true (length marks) (length indexes) (not-false _ a.0);
      as_many_nodes = eqb-true (length nodes) (length indexes) (not-false _ a.1);
      as_many_counts = eqb-true (length counts) (length indexes) (not-false _ b.1);
      all_bytes = eqb-true (sum counts) (length exrs) (not-false _ c.1);
    }

-- ---- the EXRS of the domain at a place

module _ (counts exrs : List ℕ) (e : sum counts ≡ length exrs) (i : ℕ) (h : i < length counts) where
  -- they end inside the bytes,
  pub exrs-inside : bytes_before counts i + get_or counts i 0 ≤ length exrs
  exrs-inside = omega (arith, bytes_next counts i h, bytes_most counts (suc i))

  -- and are as many bytes as the count says
  pub exrs-long : (ds : List Domain) (indexes marks nodes : List ℕ) → length (exrs_at ds indexes marks nodes counts exrs i) ≡ get_or counts i 0
  exrs-long ds indexes marks nodes =
      length-take-le (get_or counts i 0) (drop (bytes_before counts i) exrs) (omega (arith, exrs-inside, length-drop (bytes_before counts i) exrs))

-- ---- the whole list

exrs_in_lem : (ds : List Domain) (before : Option ℕ) (ps : List Stop) → length (all_exrs ps) ≤ length (written_from ds before ps)
unfolding written_from all_exrs each
exrs_in_lem ds before [] = omega arith
exrs_in_lem ds before (p ∷ rest) =
    let d = domain_of ds p.domain in
    let named : List ℕ = system_after before d.asn ++ written_area d.kind d in
    omega
    (arith, length-append p.exrs (all_exrs rest), length-append (written_stop before p.pin p.exrs d) (written_from ds (some d.asn) rest), length-append (written_pin p.pin) (p.exrs ++ named), length-append p.exrs named, exrs_in_lem ds (some d.asn) rest)

pub exrs-within : (ds : List Domain) (indexes marks nodes counts exrs : List ℕ) → Together indexes marks nodes counts exrs
    → length exrs ≤ length (written ds (stops indexes marks nodes counts exrs))
unfolding written
exrs-within ds indexes marks nodes counts exrs t =
    let all = ap length (stops-exrs indexes marks nodes counts exrs t.as_many_marks t.as_many_nodes t.as_many_counts t.all_bytes) in
    omega (arith, exrs_in_lem ds none (stops indexes marks nodes counts exrs))

-- ---- whether all subobjects are EXRS, one subobject at a time

-- only type 33 is one
not_exrs : (s : List ℕ) (at : ℕ) → eqb (type_at s at) 33 ≡ false → is_exrs (named_at s at) ≡ false
not_exrs s at e = unmarked (is_exrs (named_at s at)) (no_33 (λ (n : Named). marked (is_exrs n)) (λ a n. refl) (λ n. refl) (λ a. refl) s at e)
  where
    marked : Bool → List ℕ
    marked true = 0 ∷ []
    marked false = []

    unmarked : (b : Bool) → marked b ≡ [] → b ≡ false
    unmarked true f = absurd (omega (arith, ap length f))
    unmarked false f = refl

-- those from a place on
abbrev pub only_exrs : List ℕ → ℕ → Bool
only_exrs s at = all (λ (x : Subobject). is_exrs x.names) (subobjects_from s (length s) at)

module _ (s : List ℕ) (at : ℕ) (h : at < length s) (e : form_from Include s (length s) at ≡ Pass) where
  only_step : only_exrs s at ≡ is_exrs (named_at s at) && only_exrs s (after_subobject s at)
  only_step = ap (all (λ (x : Subobject). is_exrs x.names)) (subobjects_next Include s (length s) at h e)

  pub only_not : (type_at s at ≡ 33 → ⊥) → only_exrs s at ≡ false
  only_not t = only_step ∙ ap (λ (b : Bool). b && only_exrs s (after_subobject s at)) (not_exrs s at (ne_eqb (type_at s at) 33 t))

  pub only_next : type_at s at ≡ 33 → only_exrs s at ≡ only_exrs s (after_subobject s at)
  only_next t = only_step ∙ ap (λ (n : Named). is_exrs n && only_exrs s (after_subobject s at)) (named_33 s at t)

pub only_end : (s : List ℕ) (at : ℕ) → length s ≤ at → only_exrs s at ≡ true
only_end s at h = ap (all (λ (x : Subobject). is_exrs x.names)) (subobjects-end s (length s) at h)
