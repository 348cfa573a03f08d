-- The outcomes of `write_pcrep`: 37, 21, 34, or the message. By which of the checks of `write_verdict` refuses, in terms of the message's length.
use Rattle.std.specs.Prelude.{Result, Ok, Err}
use Prim.Native.Nat.{ℕ, ◌+◌, ◌*◌}
use native.Mathlib.Nat.{zero-add}
use native.Mathlib.Omega.{arith}
use mathlib.Core.Path.{◌≡◌, refl, sym, ap, ap₂, ◌∙◌}
use mathlib.Core.Logic.{⊎_elim}
use mathlib.Core.Bool.{Bool, true, false, not, ◌||◌}
use mathlib.Core.List.{List, [], ◌∷◌, ◌++◌}
use lib.Dec.{eqb, ltb}
use lib.ListN.{length, drop}
use borrow.Author.Tests.{eqb-true, ltb-true, ltb-false, lt-ltb, not-false}
use Rattle.model.specs.declared.Refusal.{Refusal}
use Rattle.model.specs.Lists.{any, over}
use Rattle.model.specs.Verdict.{Verdict, Pass, refuse_if, ◌and_then◌}
use Rattle.model.specs.Answers.{numbers_of_write, refused2, done2}
use Rattle.model.specs.Calls.{Outcome, nothing, room_verdict, answer_write}
use Rattle.laws.proofs.Tests.{decide, or_neither}
use Rattle.laws.proofs.Turns.{and_then-refuse_if, refuse_if_pass}
use Rattle.laws.proofs.Lists.{over_nothing}
use Rattle.buffers.specs.Placed.{Put}
use Rattle.pcep_model.specs.Metrics.{Metric, out_of_range}
use Rattle.pcep_model.specs.Pcrep.{Reply, metrics_of, apart, written_pcrep, write_verdict, write_pcrep}
use Rattle.pcep_laws.proofs.WrittenLength.{written-length}
use Rattle.pcep_reply_writer.specs.Lengths.{capped, route_length, message_length, Together}
use Rattle.pcep_reply_writer.proofs.Runs.{metrics-count}
use Rattle.pcep_reply_writer.specs.Writing.{reply_of, reply_verdict, Fits, WrittenReply}

-- ---- the outcome by the verdict, for any reply

module _ (r : Reply) (unequal : Bool) (entry : List ℕ) where
  outcome : (v : Verdict) → write_verdict r unequal (length entry) ≡ v → write_pcrep r unequal (length entry) ≡ answer_write v (written_pcrep r)
  unfolding write_pcrep
  outcome v e = ap (λ (x : Verdict). answer_write x (written_pcrep r)) e

  by_outcome : (exit : List ℕ) (answer : Result ℕ Refusal) (o : Outcome ℕ) → write_pcrep r unequal (length entry) ≡ o
      → numbers_of_write answer ≡ o.numbers → exit ≡ over o.written entry → WrittenReply r unequal entry exit answer
  by_outcome exit answer o e n b =
      record { numbers = n ∙ ap (λ (x : Outcome ℕ). x.numbers) (sym e); buffer = b ∙ ap (λ (x : Outcome ℕ). over x.written entry) (sym e) }

  refused : (x : Refusal) → write_verdict r unequal (length entry) ≡ Err x → WrittenReply r unequal entry entry (Err x)
  refused x e = by_outcome entry (Err x) (nothing (refused2 x)) (outcome (Err x) e) refl (sym (over_nothing entry))

  all_written
      : (exit : List ℕ) (n after : ℕ) → write_verdict r unequal (length entry) ≡ Pass → n ≡ length (written_pcrep r)
      → Put 0 (written_pcrep r) entry exit after → WrittenReply r unequal entry exit (Ok n)
  unfolding over
  all_written exit n after e l p =
      by_outcome exit (Ok n) (record { numbers = done2 (length (written_pcrep r)); written = written_pcrep r })
      (outcome Pass e)
      (ap done2 l)
      (p.holds ∙ ap (λ (m : ℕ). written_pcrep r ++ drop m entry) (zero-add (length (written_pcrep r))))

-- ---- the checks in terms of the lists

-- a METRIC is out of range just when its value is
values-range : (kinds flags values : List ℕ) → length flags ≡ length kinds → length values ≡ length kinds
    → any (λ (m : Metric). out_of_range m.value) (metrics_of kinds flags values) ≡ any out_of_range values
unfolding metrics_of
values-range [] flags [] h k = refl
values-range [] flags (v ∷ vs) h k = absurd (omega arith)
values-range (x ∷ ks) [] values h k = absurd (omega arith)
values-range (x ∷ ks) (f ∷ fs) [] h k = absurd (omega arith)
values-range (x ∷ ks) (f ∷ fs) (v ∷ vs) h k = ap (λ (b : Bool). out_of_range v || b) (values-range ks fs vs (omega arith) (omega arith))

equal_counts : (kinds flags values : List ℕ) → apart kinds flags values ≡ false → Together kinds flags values
equal_counts kinds flags values e =
    let both = or_neither (not (eqb (length flags) (length kinds))) (not (eqb (length values) (length kinds))) e in
    record {
      as_many_flags = eqb-true (length flags) (length kinds) (not-false _ both.0);
      as_many_values = eqb-true (length values) (length kinds) (not-false _ both.1);
    }

-- the checks by what they say of the lists, of the length and of the values
abbrev checks : Bool → ℕ → Bool → ℕ → Verdict
checks unequal size wrong room = refuse_if (unequal || ltb 65535 size) 37 0 and_then refuse_if wrong 21 1 and_then room_verdict size room

-- a length that no number of 64 bits holds can be told as the greatest
cut : (unequal wrong : Bool) (long size room : ℕ) → size ≡ capped long → checks unequal long wrong room ≡ checks unequal size wrong room
cut true wrong long size room told = refl
cut false wrong long size room told =
    ⊎_elim
    (λ (t : ltb 65535 long ≡ true). let h = ltb-true 65535 long t in rw (t, lt-ltb 65535 size (omega arith)) refl)
    (λ (f : ltb 65535 long ≡ false). let h = ltb-false 65535 long f in let e : long ≡ size = omega arith in ap (λ (n : ℕ). checks false n wrong room) e)
    (decide (ltb 65535 long))

-- what passes the checks
passed-fits
    : (found : Bool) (addresses kinds flags values out : List ℕ) (size : ℕ) → size ≡ capped (message_length found (length addresses) (length kinds))
    → reply_verdict size (length kinds) (length flags) values (length out) ≡ Pass → Fits found addresses kinds flags values out size
passed-fits found addresses kinds flags values out size told p =
    let three = (and_then-refuse_if _ (ltb (length out) size) 34 0).0 p in
    let two = (and_then-refuse_if _ (any out_of_range values) 21 1).0 three.0 in
    let one = or_neither (apart kinds flags values) (ltb 65535 size) ((refuse_if_pass (apart kinds flags values || ltb 65535 size) 37 0).0 two.0) in
    let short = ltb-false 65535 size one.1 in
    record { told = omega arith; short = short; room = ltb-false (length out) size three.1; together = equal_counts kinds flags values one.0 }

module _ (id flags : ℕ) (found : Bool) (addresses : List ℕ) (nature : ℕ) (c : Bool) (kinds metric_flags values : List ℕ) where
  abbrev reply : Reply
  reply = reply_of id flags found addresses nature c kinds metric_flags values

  abbrev long : ℕ
  long = message_length found (length addresses) (length kinds)

  reply-length : Together kinds metric_flags values → length (written_pcrep reply) ≡ long
  reply-length t = written-length reply ∙ ap (λ (n : ℕ). 16 + route_length found (length addresses) + 12 * n) (metrics-count kinds metric_flags values t)

  -- METRIC lists that don't belong together are refused at once
  apart_judged : (size room : ℕ) → apart kinds metric_flags values ≡ true
      → write_verdict reply (apart kinds metric_flags values) room ≡ reply_verdict size (length kinds) (length metric_flags) values room
  unfolding write_verdict
  apart_judged size room e = rw e refl

  together_judged : (size room : ℕ) → size ≡ capped long → Together kinds metric_flags values
      → write_verdict reply (apart kinds metric_flags values) room ≡ reply_verdict size (length kinds) (length metric_flags) values room
  unfolding write_verdict
  together_judged size room told t =
      ap₂ (λ (n : ℕ) (b : Bool). checks (apart kinds metric_flags values) n b room) (reply-length t) (values-range kinds metric_flags values t.as_many_flags t.as_many_values)
      ∙ cut (apart kinds metric_flags values) (any out_of_range values) long size room told

  -- the definition's checks are the code's, whose length is cut at the greatest number
  judged
      : (size room : ℕ) → size ≡ capped long
      → write_verdict reply (apart kinds metric_flags values) room ≡ reply_verdict size (length kinds) (length metric_flags) values room
  judged size room told =
      ⊎_elim
      (apart_judged size room)
      (λ (e : apart kinds metric_flags values ≡ false). together_judged size room told (equal_counts kinds metric_flags values e))
      (decide (apart kinds metric_flags values))

  -- the verdict that the code finds, and what follows from it
  module _ (entry : List ℕ) (size : ℕ) (told : size ≡ capped long) (v : Verdict) (e : v ≡ reply_verdict size (length kinds) (length metric_flags) values (length entry)) where
    pub fits : v ≡ Pass → Fits found addresses kinds metric_flags values entry size
    fits p = passed-fits found addresses kinds metric_flags values entry size told (sym e ∙ p)

    same : write_verdict reply (apart kinds metric_flags values) (length entry) ≡ v
    same = judged size (length entry) told ∙ sym e

    pub refused-reply : (x : Refusal) → v ≡ Err x → WrittenReply reply (apart kinds metric_flags values) entry entry (Err x)
    refused-reply x r = refused reply (apart kinds metric_flags values) entry x (same ∙ r)

    pub written-reply : v ≡ Pass → (exit : List ℕ) (after : ℕ) → Put 0 (written_pcrep reply) entry exit after
        → WrittenReply reply (apart kinds metric_flags values) entry exit (Ok size)
    written-reply p exit after put =
        let f = fits p in
        all_written reply (apart kinds metric_flags values) entry exit size after (same ∙ p) (f.told ∙ sym (reply-length f.together)) put
