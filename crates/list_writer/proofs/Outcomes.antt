-- The outcomes of `write_list`: the profile's refusal, 35, 34, or the list. By which of the checks of `write_list` refuses.
use Rattle.std.specs.Prelude.{Result, Ok, Err}
use Prim.Native.Nat.{ℕ, ◌≤◌}
use native.Mathlib.Omega.{arith}
use mathlib.Core.Path.{◌≡◌, refl, sym, ap, subst, ◌∙◌}
use mathlib.Core.Bool.{false}
use mathlib.Core.List.{List}
use lib.Dec.{ltb}
use lib.ListN.{length}
use borrow.Author.Tests.{eq-eqb, ltb-false}
use Rattle.model.specs.declared.Refusal.{Refusal}
use Rattle.model.specs.Lists.{over}
use Rattle.model.specs.Verdict.{Verdict, Pass, refuse_if, ◌and_then◌}
use Rattle.model.specs.Profile.{domains, verdict_on}
use Rattle.model.specs.WrittenList.{stops, written, unfit, unwritable}
use Rattle.model.specs.Answers.{numbers_of_write, refused2, done2}
use Rattle.model.specs.Calls.{Outcome, nothing, answer_write, write_list}
use Rattle.laws.proofs.Lists.{over_nothing}
use Rattle.laws.proofs.Stops.{accepts}
use Rattle.laws.proofs.Turns.{refuse_if_pass}
use Rattle.laws.proofs.WrittenSizes.{together, exrs-within}
use Rattle.list_writer.specs.Writing.{Fitting, WrittenBy}

module _ (profile indexes marks nodes counts exrs : List ℕ) where
  abbrev bytes : List ℕ
  bytes = written (domains profile) (stops indexes marks nodes counts exrs)

  -- the outcome by what the three checks say
  outcome_by : (room : ℕ) (v w s : Verdict) → verdict_on profile ≡ v → refuse_if (unwritable (domains profile) indexes marks nodes counts exrs) 35 0 ≡ w
      → refuse_if (ltb room (length bytes)) 34 0 ≡ s → write_list profile indexes marks nodes counts exrs room ≡ answer_write (v and_then w and_then s) bytes
  unfolding write_list
  outcome_by room v w s e f g i = answer_write (e i and_then f i and_then g i) bytes

  by_outcome : (entry exit : List ℕ) (answer : Result ℕ Refusal) (o : Outcome ℕ) → write_list profile indexes marks nodes counts exrs (length entry) ≡ o
      → numbers_of_write answer ≡ o.numbers → exit ≡ over o.written entry → WrittenBy profile indexes marks nodes counts exrs entry exit answer
  by_outcome entry exit answer o e n b =
      record { numbers = n ∙ ap (λ (x : Outcome ℕ). x.numbers) (sym e); buffer = b ∙ ap (λ (x : Outcome ℕ). over x.written entry) (sym e) }

  module _ (entry : List ℕ) where
    -- a refusal leaves the buffer as it is
    refused : (r : Refusal) (answer : Result ℕ Refusal) → answer ≡ Err r → write_list profile indexes marks nodes counts exrs (length entry) ≡ nothing (refused2 r)
        → WrittenBy profile indexes marks nodes counts exrs entry entry answer
    refused r answer told e = by_outcome entry entry answer (nothing (refused2 r)) e (ap numbers_of_write told) (sym (over_nothing entry))

    pub refused-profile : (r : Refusal) (answer : Result ℕ Refusal) → answer ≡ Err r → verdict_on profile ≡ Err r
        → WrittenBy profile indexes marks nodes counts exrs entry entry answer
    refused-profile r answer told e = refused r answer told (outcome_by (length entry) (Err r) _ _ e refl refl)

    module _ (e : verdict_on profile ≡ Pass) where
      pub refused-sequence : (r : Refusal) (answer : Result ℕ Refusal) → answer ≡ Err r → refuse_if (unwritable (domains profile) indexes marks nodes counts exrs) 35 0 ≡ Err r
          → WrittenBy profile indexes marks nodes counts exrs entry entry answer
      refused-sequence r answer told f = refused r answer told (outcome_by (length entry) Pass (Err r) _ e f refl)

      module _ (f : refuse_if (unwritable (domains profile) indexes marks nodes counts exrs) 35 0 ≡ Pass) where
        -- a sequence that can be written fits together, and its EXRS are short
        pub fitting : Fitting profile indexes marks nodes counts exrs × (length exrs ≤ 1024)
        unfolding unfit
        fitting =
            let a = accepts (domains profile) indexes marks nodes counts exrs ((refuse_if_pass (unwritable (domains profile) indexes marks nodes counts exrs) 35 0).0 f) in
            let short = a.short in
            let together_by : unfit indexes marks nodes counts exrs ≡ false = simp (eq-eqb _ _ a.as_many_marks, eq-eqb _ _ a.as_many_nodes, eq-eqb _ _ a.as_many_counts, eq-eqb _ _ a.all_bytes) in
            let long = exrs-within (domains profile) indexes marks nodes counts exrs (together indexes marks nodes counts exrs together_by) in
            (record { accepted = e; most = a.most; fit = together_by; in_profile = a.in_profile }, omega arith)

        module _ (n : ℕ) (size : n ≡ length bytes) where
          room_by : (v : Verdict) → refuse_if (ltb (length entry) n) 34 0 ≡ v → refuse_if (ltb (length entry) (length bytes)) 34 0 ≡ v
          room_by v = subst (λ (k : ℕ). refuse_if (ltb (length entry) k) 34 0 ≡ v) size

          pub too_small : (r : Refusal) (answer : Result ℕ Refusal) → answer ≡ Err r → refuse_if (ltb (length entry) n) 34 0 ≡ Err r
              → WrittenBy profile indexes marks nodes counts exrs entry entry answer
          too_small r answer told g = refused r answer told (outcome_by (length entry) Pass Pass (Err r) e f (room_by (Err r) g))

          module _ (g : refuse_if (ltb (length entry) n) 34 0 ≡ Pass) where
            pub room : length bytes ≤ length entry
            room = ltb-false (length entry) (length bytes) ((refuse_if_pass (ltb (length entry) (length bytes)) 34 0).0 (room_by Pass g))

            pub all_written : (exit : List ℕ) → exit ≡ over bytes entry → WrittenBy profile indexes marks nodes counts exrs entry exit (Ok n)
            all_written exit put =
                by_outcome entry exit (Ok n) (record { numbers = done2 (length bytes); written = bytes })
                (outcome_by (length entry) Pass Pass Pass e f (room_by Pass g))
                (ap done2 size)
                put
