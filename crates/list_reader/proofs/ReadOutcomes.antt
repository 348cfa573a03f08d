-- What `read_include` has to answer and leave, by how the reading ends: refused, too little capacity, or a sequence in the buffers.
use Rattle.std.specs.Prelude.{Result, Ok, Err}
use mathlib.Core.Path.{◌≡◌, refl, sym, ap, subst, ◌∙◌}
use mathlib.Core.List.{List, map}
use Prim.Native.Nat.{ℕ}
use lib.ListN.{length}
use Rattle.model.specs.Verdict.{Verdict, Pass, ◌and_then◌}
use Rattle.model.specs.declared.Refusal.{Refusal}
use Rattle.model.specs.declared.ReadCounts.{ReadCounts}
use Rattle.model.specs.Lists.{each, over}
use Rattle.model.specs.Sequence as M
use Rattle.model.specs.Request.{reading_input, provided}
use Rattle.model.specs.Answers.{refused3, done3, numbers_of_read}
use Rattle.model.specs.Calls.{Outcome, nothing, all_exrs, room_verdict, answer_read, read_into, reading_of, read_include, pin_mark, pin_node}
use Rattle.laws.proofs.Lists.{over_nothing}
use Rattle.list_reader.specs.ReadInclude.{read_verdict, SequenceIn, ExrsIn, ReadIn}

-- ---- how the reading ends

module _ (P : List ℕ) (i : ℕ) (L : List ℕ) where
  pub checks_refused : (r : Refusal) → read_verdict P i L ≡ Err r → reading_of P i L ≡ M.refused r
  unfolding reading_of
  checks_refused r e = ap (λ (v : Verdict). provided v (M.meaning (reading_input P) i L)) e

  pub checks_passed : (m : M.Reading (List M.Stop)) → read_verdict P i L ≡ Pass → m ≡ M.meaning (reading_input P) i L → reading_of P i L ≡ m
  unfolding reading_of
  checks_passed m e q = ap (λ (v : Verdict). provided v (M.meaning (reading_input P) i L)) e ∙ sym q

  pub outcome_of : (m : M.Reading (List M.Stop)) (room bytes : ℕ) → reading_of P i L ≡ m → read_include P i L room bytes ≡ read_into m room bytes
  unfolding read_include
  outcome_of m room bytes e = ap (λ (x : M.Reading (List M.Stop)). read_into x room bytes) e

-- ---- whether there is capacity for a sequence

module _ (seq : List M.Stop) (room bytes : ℕ) where
  pub few-places : (x : Refusal) → room_verdict (length seq) room ≡ Err x → read_into (M.good seq) room bytes ≡ nothing (refused3 x)
  few-places x e = ap (λ (v : Verdict). answer_read (v and_then room_verdict (length (all_exrs seq)) bytes) seq) e

  module _ (h : room_verdict (length seq) room ≡ Pass) where
    both : (v : Verdict) → room_verdict (length (all_exrs seq)) bytes ≡ v → read_into (M.good seq) room bytes ≡ answer_read v seq
    both v e = ap (λ (v : Verdict). answer_read (v and_then room_verdict (length (all_exrs seq)) bytes) seq) h ∙ ap (λ (v : Verdict). answer_read v seq) e

    pub few_bytes : (x : Refusal) → room_verdict (length (all_exrs seq)) bytes ≡ Err x → read_into (M.good seq) room bytes ≡ nothing (refused3 x)
    few_bytes x e = both (Err x) e

    pub outcome-read : room_verdict (length (all_exrs seq)) bytes ≡ Pass → read_into (M.good seq) room bytes ≡ record { numbers = done3 (length seq) (length (all_exrs seq)); written = seq }
    outcome-read e = both Pass e

-- ---- what that leaves

module _ (D M' N C X : List ℕ) where
  pub refused-is : (o : Outcome M.Stop) {r : Result ReadCounts Refusal} (x : Refusal) → r ≡ Err x → o ≡ nothing (refused3 x) → ReadIn o D M' N C X r D M' N C X
  unfolding all_exrs each
  refused-is o {r} x is e =
      let kept : (f : M.Stop → ℕ) (old : List ℕ) → old ≡ over (map f o.written) old = λ f old. sym (ap (λ (x : Outcome M.Stop). over (map f x.written) old) e ∙ over_nothing old) in
      record {
        numbers = ap numbers_of_read is ∙ sym (ap (λ (x : Outcome M.Stop). x.numbers) e);
        in_domains = kept (λ (p : M.Stop). p.domain) D;
        in_marks = kept (λ (p : M.Stop). pin_mark p.pin) M';
        in_nodes = kept (λ (p : M.Stop). pin_node p.pin) N;
        in_counts = kept (λ (p : M.Stop). length p.exrs) C;
        in_exrs = sym (ap (λ (x : Outcome M.Stop). over (all_exrs x.written) X) e ∙ over_nothing X);
      }

  module _ {D' M'' N' C' X' : List ℕ} where
    pub same_outcome : {o x : Outcome M.Stop} {r : Result ReadCounts Refusal} → o ≡ x → ReadIn x D M' N C X r D' M'' N' C' X' → ReadIn o D M' N C X r D' M'' N' C' X'
    same_outcome {r = r} e = subst (λ (x : Outcome M.Stop). ReadIn x D M' N C X r D' M'' N' C' X') (sym e)

    pub read_is
        : (seq : List M.Stop) (n m : ℕ) (o : Outcome M.Stop)
        → o ≡ record { numbers = done3 (length seq) (length (all_exrs seq)); written = seq }
        → n ≡ length seq
        → m ≡ length (all_exrs seq)
        → SequenceIn seq D M' N D' M'' N'
        → ExrsIn seq C X C' X'
        → ReadIn o D M' N C X (Ok (record { count = n; exrs = m })) D' M'' N' C' X'
    read_is seq n m o e p q stops carried =
        same_outcome e
        (record {
          numbers = rw (p, q) refl;
          in_domains = stops.in_domains;
          in_marks = stops.in_marks;
          in_nodes = stops.in_nodes;
          in_counts = carried.in_counts;
          in_exrs = carried.in_exrs;
        })
