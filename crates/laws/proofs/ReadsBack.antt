-- A list that is written for a sequence with entry constraints and EXRS, read with the first domain as ingress, gives that sequence with these, byte for byte; it
-- has right form, its elements are bytes, and there are at most 1,024 of them. For every accepted profile and every sequence that the writer accepts.
use Prim.Native.Nat.{ℕ, zero, suc, ◌+◌, ◌^◌, ◌≤◌, ◌<◌}
use native.Mathlib.Omega.{arith}
use mathlib.Core.Path.{◌≡◌, refl, sym, ap, subst, ◌∙◌}
use mathlib.Core.Bool.{false, not}
use mathlib.Core.List.{List, [], ◌∷◌}
use mathlib.Core.Option.{none}
use lib.ListN.{length, get_or, take, drop}
use lib.Seq.{get_or-drop}
use lib.Dec.{eqb, leb}
use borrow.Author.Tests.{eqb-true, leb-false, lt-leb, le-ltb, not-false}
use Rattle.model.specs.Verdict.{Pass}
use Rattle.model.specs.declared.Domain.{Domain}
use Rattle.model.specs.declared.ListKind.TheVariants.{Include}
use Rattle.model.specs.Lists.{any, all_different}
use Rattle.model.specs.Profile.{layout_in, domain_count, domains, verdict_on}
use Rattle.model.specs.Subobject.{form_verdict}
use Rattle.model.specs.Sequence.{Stop, stop, ReadingInput, good, meaning}
use Rattle.model.specs.WrittenList.{written, pin_if, stops, whole_exrs, unwritable}
use Rattle.model.specs.Request.{reading_input}
use Rattle.model.specs.Calls.{reading_of}
use Rattle.laws.proofs.Tests.{or_neither}
use Rattle.laws.proofs.SoundDomains.{SoundDomains, sound-domains}
use Rattle.laws.proofs.Records.{length-domains}
use Rattle.laws.proofs.BigEndian.{Bytes}
use Rattle.laws.proofs.Numbers.{bytes_take}
use Rattle.laws.proofs.Exrs.{whole-exrs}
use Rattle.laws.proofs.WrittenItems.{PinFits, Writable, written-form, written-bytes}
use Rattle.laws.proofs.ReadItems.{stops-read}
use Rattle.laws.proofs.Stops.{stops-domains, stops-count, Accepts, accepts}

-- ---- the sequence that lent lists stand for

pin-fits : (m node : ℕ) → node < 2 ^ 32 → PinFits (pin_if m node)
pin-fits zero node h = tt
pin-fits (suc m) node h = h

stops-writable
    : (ds : List Domain) (is ms ns cs xs : List ℕ)
    → any (λ (d : ℕ). leb (length ds) d) is ≡ false
    → ((i : ℕ) → get_or ns i 0 < 2 ^ 32)
    → Bytes xs
    → any (λ (p : Stop). not (whole_exrs p.exrs)) (stops is ms ns cs xs) ≡ false
    → Writable ds (stops is ms ns cs xs)
unfolding stops
stops-writable ds [] ms ns cs xs a h b e = tt
stops-writable ds (i ∷ is) [] ns cs xs a h b e = tt
stops-writable ds (i ∷ is) (m ∷ ms) [] cs xs a h b e = tt
stops-writable ds (i ∷ is) (m ∷ ms) (n ∷ ns) [] xs a h b e = tt
stops-writable ds (i ∷ is) (m ∷ ms) (n ∷ ns) (c ∷ cs) xs a h b e =
    let inside = or_neither (leb (length ds) i) (any (λ (d : ℕ). leb (length ds) d) is) a in
    let whole = or_neither (not (whole_exrs (take c xs))) _ e in (
      leb-false (length ds) i inside.0,
      pin-fits m n (h 0),
      (whole-exrs (take c xs) (not-false (whole_exrs (take c xs)) whole.0), bytes_take c xs b),
      stops-writable ds is ms ns cs (drop c xs) inside.1 (λ k. h (suc k)) (λ k. subst (λ (v : ℕ). v < 256) (sym (get_or-drop c xs k 0)) (b (c + k))) whole.1,
    )

first_unpinned : (m node : ℕ) → m ≡ 0 → pin_if m node ≡ none
first_unpinned zero node e = refl
first_unpinned (suc m) node e = absurd (omega arith)

first_inside : (n : ℕ) (is : List ℕ) → (length is ≡ 0 → ⊥) → any (λ (d : ℕ). leb n d) is ≡ false → get_or is 0 0 < n
first_inside n [] e a = absurd (e refl)
first_inside n (i ∷ is) e a = leb-false n i (or_neither (leb n i) (any (λ (d : ℕ). leb n d) is) a).0

first-empty : (c : ℕ) (xs : List ℕ) → c ≡ 0 → take c xs ≡ []
first-empty c xs e = ap (λ (n : ℕ). take n xs) e

-- ---- the meaning of what is written

means
    : (R : ReadingInput) → SoundDomains R.domains → (is ms ns cs xs : List ℕ)
    → Accepts R.domains is ms ns cs xs
    → ((i : ℕ) → get_or ns i 0 < 2 ^ 32)
    → Bytes xs
    → meaning R (get_or is 0 0) (written R.domains (stops is ms ns cs xs)) ≡ good (stops is ms ns cs xs)
unfolding stops
means R sound [] ms ns cs xs a h b = absurd (a.some_domain_lem refl)
means R sound (i ∷ is) [] ns cs xs a h b = absurd (omega (arith, a.as_many_marks))
means R sound (i ∷ is) (m ∷ ms) [] cs xs a h b = absurd (omega (arith, a.as_many_nodes))
means R sound (i ∷ is) (m ∷ ms) (n ∷ ns) [] xs a h b = absurd (omega (arith, a.as_many_counts))
means R sound (i ∷ is) (m ∷ ms) (n ∷ ns) (c ∷ cs) xs a h b =
    let p : Stop = stop i (pin_if m n) (take c xs) in
    let rest = stops is ms ns cs (drop c xs) in
    let marks : length ms ≡ length is = omega (arith, a.as_many_marks) in
    let nodes : length ns ≡ length is = omega (arith, a.as_many_nodes) in
    let counts : length cs ≡ length is = omega (arith, a.as_many_counts) in
    let same = stops-domains is ms ns cs (drop c xs) marks nodes counts in
    stops-read R sound p rest (first_unpinned m n (eqb-true m 0 (not-false (eqb m 0) a.unpinned))) (first-empty c xs (eqb-true c 0 (not-false (eqb c 0) a.unexcluded)))
    (stops-writable R.domains (i ∷ is) (m ∷ ms) (n ∷ ns) (c ∷ cs) xs a.in_profile h b a.whole)
    (ap (λ (t : List ℕ). all_different (i ∷ t)) same ∙ a.different)
    (omega (arith, a.most, stops-count is ms ns cs (drop c xs) marks nodes counts))

-- ---- the law

-- a profile that is accepted, and lists that the writer accepts: domain indexes, marks of entry constraints, nodes, counts of bytes, and the EXRS' bytes
module _ (profile indexes marks nodes counts exrs : List ℕ) (bytes : Bytes profile) (addresses : (i : ℕ) → get_or nodes i 0 < 2 ^ 32) (exrs-bytes : Bytes exrs)
    (accepted : verdict_on profile ≡ Pass) (writes : unwritable (domains profile) indexes marks nodes counts exrs ≡ false) where
  sound : SoundDomains (domains profile)
  sound = sound-domains (layout_in profile) profile bytes accepted

  asked : Accepts (domains profile) indexes marks nodes counts exrs
  asked = accepts (domains profile) indexes marks nodes counts exrs writes

  abbrev sequence : List Stop
  sequence = stops indexes marks nodes counts exrs

  writable : Writable (domains profile) sequence
  writable = stops-writable (domains profile) indexes marks nodes counts exrs asked.in_profile addresses exrs-bytes asked.whole

  -- the written list fits a request,
  pub written-short : length (written (domains profile) sequence) ≤ 1024
  written-short = asked.short

  -- its elements are bytes,
  pub written_are_bytes : Bytes (written (domains profile) sequence)
  written_are_bytes = written-bytes (domains profile) sound sequence writable

  -- its form is that of an include list,
  pub written-passes : form_verdict Include (written (domains profile) sequence) ≡ Pass
  written-passes = written-form (domains profile) sound sequence writable

  -- and it is read back
  read : reading_of profile (get_or indexes 0 0) (written (domains profile) sequence) ≡ good sequence
  unfolding reading_of
  read =
      let list = written (domains profile) sequence in
      let inside = first_inside (length (domains profile)) indexes asked.some_domain_lem asked.in_profile in
      rw (accepted, lt-leb (domain_count profile) (get_or indexes 0 0) (omega (arith, length-domains profile)), le-ltb 1024 (length list) written-short, written-passes)
      (means (reading_input profile) sound indexes marks nodes counts exrs asked addresses exrs-bytes)

-- Document 01, "Written list": it is read back with its first domain as ingress; document 02, request [5]: EXRS byte for byte.
pub reads-back
    : (profile indexes marks nodes counts exrs : List ℕ)
    → Bytes profile
    → ((i : ℕ) → get_or nodes i 0 < 2 ^ 32)
    → Bytes exrs
    → verdict_on profile ≡ Pass
    → unwritable (domains profile) indexes marks nodes counts exrs ≡ false
    → reading_of profile (get_or indexes 0 0) (written (domains profile) (stops indexes marks nodes counts exrs)) ≡ good (stops indexes marks nodes counts exrs)
reads-back = read
