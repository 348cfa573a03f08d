-- Every refusal has one of document 01's numbers, from 10 to 35: so an answer 0, 1 or 2 is no refusal. By going through the checks, one after the other. Up to any number
-- that is at least 35, since messages are refused by more.
use Rattle.std.specs.Prelude.{Ok, Err}
use Prim.Native.Nat.{ℕ, zero, suc, ◌+◌, ◌-◌, ◌≤◌}
use native.Mathlib.Omega.{arith}
use mathlib.Core.Path.{◌≡◌, sym, ap, subst}
use mathlib.Core.Logic.{⊎_elim}
use mathlib.Core.Bool.{Bool, true, false, not, ◌&&◌, ◌||◌}
use mathlib.Core.List.{List, [], ◌∷◌}
use mathlib.Core.Option.{Option, none, some}
use lib.ListN.{length}
use lib.Dec.{eqb, leb, ltb}
use borrow.Author.Tests.{ltb-true, ltb-false}
use Rattle.model.specs.declared.ListKind.{ListKind}
use Rattle.model.specs.declared.ListKind.TheVariants.{Include, Exclude}
use Rattle.model.specs.declared.Refusal.{Refusal}
use Rattle.model.specs.Lists.{among}
use Rattle.model.specs.Verdict.{Verdict, Pass, refuse_if, ◌and_then◌, in_turn}
use Rattle.model.specs.Along.{checked_along}
use Rattle.model.specs.Profile.{Layout, class_of, domain_count, hop_count, header_wrong, counts_wrong, length_wrong, header_verdict, domain_at, domain_malformed, domain_misordered, domain_verdict, hop_at, hop_malformed, hop_misordered, hop_verdict, crowded, crowded_verdict, profile_verdict, layout_in}
use Rattle.model.specs.Reserved.{as_ranges, address_ranges, misplaced}
use Rattle.model.specs.Floats.{in_range}
use Rattle.model.specs.Subobject.{Named, prefix, system, area, stretch, Subobject, known, length_fits, top_at, type_at, area_length_at, top_wrong, length_at, field_wrong, plain_verdict, carried_verdict, carried_if, subobject_verdict, form_verdict, subobjects, after_subobject}
use Rattle.model.specs.Sequence.{Stop, Waits, entry, exclusions, Waiting, pin_of, left_over, ReadingInput, State, Reading, refused, good, refuse, continue, enter_if, domains_of, enter, name, wait, area_next, read_system, read_named, read_one, finish, read_all, start_in, meaning, of_system, of_area, with_system}
use Rattle.model.specs.Request.{Request, layout_for, reading_input, provided, request_verdict, sequence_of, sizes_verdict, forms_verdict, request_verdict_with}
use Rattle.model.specs.Calls.{reading_of}
use Rattle.laws.proofs.Tests.{decide}
use Rattle.laws.proofs.Along.{check_step, none_checked}

-- a refusal's number, from 10 to the most
abbrev pub Numbered : ℕ → Refusal → Type 0
Numbered most x = (10 ≤ x.number) × (x.number ≤ most)

pub record Refusing (most : ℕ) (v : Verdict) : Type 0 where
  pub numbered : (x : Refusal) → v ≡ Err x → Numbered most x

pub record Reads {A : Type 0} (most : ℕ) (reading : Reading A) : Type 0 where
  pub numbered : (x : Refusal) → reading ≡ refused x → Numbered most x

module _ (most : ℕ) (high : 35 ≤ most) where
  -- ---- verdicts

  pub passing : Refusing most Pass
  passing = record { numbered = λ x e. let z : ◌≡◌ {A = ℕ} 0 1 = cc in absurd (omega arith) }

  -- one check; one more behind others; two verdicts one after the other
  pub test : (b : Bool) (n p : ℕ) → (10 ≤ n) × (n ≤ most) → Refusing most (refuse_if b n p)
  test true n p h =
      record {
        numbered = λ x e.
            let k : ◌≡◌ {A = Refusal} (record { number = n; place = p }) x = cc in
            let m : n ≡ x.number = ap (λ (r : Refusal). r.number) k in
            omega arith;
      }
  test false n p h = passing

  pub both : {v w : Verdict} → Refusing most v → Refusing most w → Refusing most (v and_then w)
  both {v = Ok _} h k = k
  both {v = Err r} h k = h

  pub more : {v : Verdict} → Refusing most v → (b : Bool) (n p : ℕ) → (10 ≤ n) × (n ≤ most) → Refusing most (v and_then refuse_if b n p)
  more h b n p r = both h (test b n p r)

  turns : (check : ℕ → Verdict) → ((i : ℕ) → Refusing most (check i)) → (i n : ℕ) → Refusing most (in_turn check i n)
  unfolding in_turn
  turns check h i zero = passing
  turns check h i (suc n) = both (h i) (turns check h (suc i) n)

  pub along
      : (check : ℕ → Verdict) (next : ℕ → ℕ) (end : ℕ) → ((at : ℕ) → Refusing most (check at)) → (fuel at : ℕ) → Refusing most (checked_along fuel check next end at)
  unfolding checked_along
  along check next end h zero at = passing
  along check next end h (suc fuel) at =
      ⊎_elim
      (λ (t : ltb at end ≡ true).
      subst (Refusing most) (sym (check_step next end check at fuel (ltb-true at end t))) (both (h at) (along check next end h fuel (next at))))
      (λ (f : ltb at end ≡ false). subst (Refusing most) (sym (none_checked next end check (suc fuel) at (ltb-false at end f))) passing)
      (decide (ltb at end))

  header_refusing : (L : Layout) (s : List ℕ) → Refusing most (header_verdict L s)
  unfolding header_verdict
  header_refusing L s =
      more (more (more (test (ltb (length s) 12) 10 0 (omega arith)) (header_wrong L s) 11 0 (omega arith)) (counts_wrong L s) 12 0 (omega arith)) (length_wrong L s) 13 0 (omega arith)

  domain_refusing : (s : List ℕ) (i : ℕ) → Refusing most (domain_verdict s i)
  unfolding domain_verdict
  domain_refusing s i =
      more (more (test (domain_malformed s i) 14 i (omega arith)) (domain_misordered s i) 15 i (omega arith)) (misplaced (class_of s) as_ranges (domain_at s i).asn) 16 i (omega arith)

  hop_refusing : (L : Layout) (s : List ℕ) (i : ℕ) → Refusing most (hop_verdict L s i)
  unfolding hop_verdict
  hop_refusing L s i =
      let h = hop_at L s i in
      let place = domain_count s + i in
      more (more (test (hop_malformed L s i) 17 place (omega arith)) (hop_misordered L s i) 18 place (omega arith))
      (misplaced (class_of s) address_ranges h.tail.0 || misplaced (class_of s) address_ranges h.head.0)
      16
      place
      (omega arith)

  crowded_refusing : (L : Layout) (s : List ℕ) (i : ℕ) → Refusing most (crowded_verdict L s i)
  unfolding crowded_verdict
  crowded_refusing L s i = test (crowded L s i) 19 (domain_count s + i) (omega arith)

  pub profile_refusing : (L : Layout) (s : List ℕ) → Refusing most (profile_verdict L s)
  unfolding profile_verdict
  profile_refusing L s =
      both
      (both
      (both (header_refusing L s) (turns (domain_verdict s) (domain_refusing s) 0 (domain_count s)))
      (turns (hop_verdict L s) (hop_refusing L s) 0 (hop_count s)))
      (turns (crowded_verdict L s) (crowded_refusing L s) 0 (hop_count s))

  pub plain_refusing : (k : ListKind) (s : List ℕ) (end at : ℕ) → Refusing most (plain_verdict k s end at)
  unfolding plain_verdict
  plain_refusing k s end at =
      let t = type_at s at in
      more
      (more
      (more
      (more
      (more
      (more (test (ltb end (at + 4)) 23 at (omega arith)) (not (known k t)) 24 at (omega arith))
      (top_wrong k (top_at s at))
      27
      at
      (omega arith))
      (eqb t 7 && not (leb 1 (area_length_at s at) && leb (area_length_at s at) 13))
      26
      at
      (omega arith))
      (not (length_fits k t (area_length_at s at) (length_at s at)))
      25
      at
      (omega arith))
      (ltb end (at + length_at s at))
      23
      at
      (omega arith))
      (field_wrong k s at)
      26
      at
      (omega arith)

  carried_refusing : (b : Bool) (s : List ℕ) (at : ℕ) → Refusing most (carried_if b s at)
  unfolding carried_verdict
  carried_refusing true s at =
      let end = after_subobject s at in
      both (test (eqb (length_at s at) 4) 26 at (omega arith))
      (along (plain_verdict Exclude s end) (after_subobject s) end (plain_refusing Exclude s end) (end - (at + 4)) (at + 4))
  carried_refusing false s at = passing

  pub subobject_refusing : (k : ListKind) (s : List ℕ) (end at : ℕ) → Refusing most (subobject_verdict k s end at)
  unfolding subobject_verdict
  subobject_refusing Include s end at = both (plain_refusing Include s end at) (carried_refusing (eqb (type_at s at) 33) s at)
  subobject_refusing Exclude s end at = plain_refusing Exclude s end at

  pub list_refusing : (k : ListKind) (s : List ℕ) → Refusing most (form_verdict k s)
  unfolding form_verdict
  list_refusing k s = along (subobject_verdict k s (length s)) (after_subobject s) (length s) (subobject_refusing k s (length s)) (length s - 0) 0

  -- ---- readings

  module _ {A : Type 0} where
    fine : (a : A) → Reads most (good a)
    fine a = record { numbered = λ x e. let z : ◌≡◌ {A = ℕ} 0 1 = cc in absurd (omega arith) }

    bad : (n p : ℕ) → (10 ≤ n) × (n ≤ most) → Reads {A = A} most (refuse n p)
    bad n p h =
        record {
          numbered = λ x e.
              let k : ◌≡◌ {A = Refusal} (record { number = n; place = p }) x = cc in
              let m : n ≡ x.number = ap (λ (r : Refusal). r.number) k in
              omega arith;
        }

    pub provided_reads : {v : Verdict} {reading : Reading A} → Refusing most v → Reads most reading → Reads most (provided v reading)
    provided_reads {v = Ok _} h k = k
    provided_reads {v = Err r} h k = record { numbered = λ x e. let q : r ≡ x = cc in h.numbered x (ap Err q) }

  continue_reads : {A B : Type 0} (reading : Reading A) (f : A → Reading B) → Reads most reading → ((a : A) → Reads most (f a)) → Reads most (continue reading f)
  continue_reads (refused r) f h k = record { numbered = λ x e. let q : r ≡ x = cc in h.numbered x (ap refused q) }
  continue_reads (good a) f h k = k a

  enter_reads : (here back full : Bool) (at : ℕ) (st : State) (d : ℕ) → Reads most (enter_if here back full at st d)
  enter_reads true back full at st d = fine st
  enter_reads false true full at st d = bad 30 at (omega arith)
  enter_reads false false true at st d = bad 31 at (omega arith)
  enter_reads false false false at st d = fine _

  name_reads : (at : ℕ) (st : State) (ds : List ℕ) → Reads most (name at st ds)
  unfolding name enter
  name_reads at st [] = bad 28 at (omega arith)
  name_reads at st (d ∷ []) = enter_reads (eqb d st.here) (among d (domains_of st.sequence)) (leb 16 (length st.sequence)) at st d
  name_reads at st (d ∷ e ∷ rest) = bad 29 at (omega arith)

  wait_reads : (at : ℕ) (st : State) (node : ℕ) (waits : Option ℕ) → Reads most (wait at st node waits)
  wait_reads at st node none = fine _
  wait_reads at st node (some other) = bad 32 at (omega arith)

  system_reads : (R : ReadingInput) (at : ℕ) (st : State) (n : ℕ) (next : Bool) → Reads most (read_system R at st n next)
  system_reads R at st n true = fine _
  system_reads R at st n false = name_reads at (with_system st n) (of_system R.domains n)

  named_reads : (R : ReadingInput) (s : Subobject) (st : State) (next : Bool) (names : Named) → Reads most (read_named R s st next names)
  named_reads R s st next (prefix a n) = wait_reads s.offset st a (pin_of st.waiting)
  named_reads R s st next (system n) = system_reads R s.offset st n next
  named_reads R s st next (area a) = name_reads s.offset st (of_area R.domains st.asn a)
  named_reads R s st next (stretch bytes) = fine _

  -- 42 is the highest number of a reading
  module _ (left : 42 ≤ most) where
    left_reads : (at : ℕ) (what : Waits) → Reads {A = List Stop} most (refuse (left_over what) at)
    left_reads at (entry node) = bad 32 at (omega arith)
    left_reads at (exclusions bytes) = bad 42 at (omega arith)

    finish_reads : (st : State) (w : List Waiting) → Reads most (finish st w)
    finish_reads st [] = fine _
    finish_reads st (w ∷ more) = left_reads w.offset w.what

    all_reads : (R : ReadingInput) (subs : List Subobject) (st : State) → Reads most (read_all R subs st)
    unfolding read_all read_one
    all_reads R [] st = finish_reads st st.waiting
    all_reads R (s ∷ rest) st =
        continue_reads (read_one R st s (area_next rest)) (λ (next : State). read_all R rest next) (named_reads R s st (area_next rest) s.names) (all_reads R rest)

    pub meaning_reads : (R : ReadingInput) (ingress : ℕ) (list : List ℕ) → Reads most (meaning R ingress list)
    unfolding meaning
    meaning_reads R ingress list = all_reads R (subobjects list) (start_in R ingress)

  -- ---- a whole request, and a list alone

  pub sizes_refusing : (include exclude : List ℕ) → Refusing most (sizes_verdict include exclude)
  sizes_refusing include exclude = more (test (ltb 1024 (length include)) 22 0 (omega arith)) (ltb 1024 (length exclude)) 22 1 (omega arith)

  pub forms_refusing : (include exclude : List ℕ) → Refusing most (forms_verdict include exclude)
  forms_refusing include exclude = both (list_refusing Include include) (list_refusing Exclude exclude)

  -- with the checks of a reply beside it, if theirs are numbered so
  pub refusing_with : {metrics ero : Verdict} → Refusing most metrics → Refusing most ero → (r : Request) → Refusing most (request_verdict_with metrics ero r)
  refusing_with of-metrics of-ero r =
      both
      (both
      (both
      (both
      (both
      (more (profile_refusing (layout_for r) r.profile) (leb (domain_count r.profile) r.ingress) 20 0 (omega arith))
      (more (test (not (in_range r.limits.bandwidth)) 21 0 (omega arith)) (r.limits.bounded && not (in_range r.limits.bound)) 21 1 (omega arith)))
      of-metrics)
      (sizes_refusing r.include r.exclude))
      (forms_refusing r.include r.exclude))
      of-ero

  pub request_refusing : (r : Request) → Refusing most (request_verdict r)
  unfolding request_verdict
  request_refusing r = refusing_with passing passing r

  pub sequence_reads : 42 ≤ most → (r : Request) → Reads most (sequence_of r)
  unfolding sequence_of
  sequence_reads left r = provided_reads (request_refusing r) (meaning_reads left (reading_input r.profile) r.ingress r.include)

  pub reading_reads : 42 ≤ most → (profile : List ℕ) (ingress : ℕ) (list : List ℕ) → Reads most (reading_of profile ingress list)
  unfolding reading_of
  reading_reads left profile ingress list =
      provided_reads
      (both
      (more (more (profile_refusing (layout_in profile) profile) (leb (domain_count profile) ingress) 20 0 (omega arith)) (ltb 1024 (length list)) 22 0 (omega arith))
      (list_refusing Include list))
      (meaning_reads left (reading_input profile) ingress list)
