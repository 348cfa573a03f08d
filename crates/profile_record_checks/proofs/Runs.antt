-- Records of a run, those that leave one node of a pair of domains: one that goes on behind a record that passed passes too, since its domains and its tail are that one's and its
-- head is above. Then how the walk along a run starts, goes on and ends.
use Prim.Native.Nat.{ℕ, suc, ◌+◌, ◌*◌, ◌/◌, ◌%◌, ◌^◌, ◌<◌, ◌≤◌}
use native.Mathlib.Nat.{mul-suc, eq-or-lt_of_le}
use native.Mathlib.Omega.{arith}
use mathlib.Core.Path.{◌≡◌, refl, sym, ap, subst, ◌∙◌}
use mathlib.Core.Logic.{⊎_elim}
use mathlib.Core.Bool.{Bool, true, false, not, ◌&&◌, ◌||◌}
use mathlib.Core.List.{List}
use lib.ListN.{length}
use lib.Dec.{eqb, leb, ltb}
use borrow.Author.Tests.{eqb-true, leb-true, ltb-true, not-true, eq-eqb, lt-ltb, le-ltb, lt-leb}
use Rattle.model.specs.Lists.{below}
use Rattle.model.specs.Bytes.{number}
use Rattle.model.specs.Reserved.{address_ranges, misplaced}
use Rattle.model.specs.Verdict.{Pass, refuse_if, ◌and_then◌}
use Rattle.model.specs.Profile.{Layout, class_of, domain_count, hop_start, hop_at, other_cost, hop_malformed, hop_misordered, hop_verdict}
use Rattle.laws.proofs.BigEndian.{Bytes}
use Rattle.laws.proofs.HopOrder.{hop_misordered-key}
use Rattle.laws.proofs.Tests.{and_both, or_neither, neither_or}
use Rattle.laws.proofs.Turns.{and_then-refuse_if, refuse_if_pass}
use Rattle.profile_records.proofs.Fields.{high_field, low_field, hop-within}
use Rattle.profile_records.specs.Layout.{HopsWithin}
use Rattle.profile_record_checks.specs.Misplaced.{hop_misplaced}
use Rattle.profile_record_checks.specs.Run.{GoesOn, RunTo}

-- the tests of the code, all true, say that a record goes on
pub all_tested : (L : Layout) (s : List ℕ) (at class pair tail before here node head cost other bits : ℕ) (wrong : Bool)
    → here ≡ number 4 s at → node ≡ number 4 s (at + 4) → head ≡ number 4 s (at + 8) → cost ≡ number 4 s (at + L.cost_at)
    → other ≡ number 4 s (at + L.other_at) → bits ≡ number 4 s (at + 16) → wrong ≡ misplaced class address_ranges head
    → ((((((eqb here pair && eqb node tail) && ltb before head) && leb cost L.most_cost) && leb other L.most_cost) && ltb bits 0x7f800000) && not wrong) ≡ true
    → GoesOn L s at class pair tail before
all_tested L s at class pair tail before here node head cost other bits wrong q₁ q₂ q₃ q₄ q₅ q₆ q₇ e =
    let f = and_both _ _ e in
    let g = and_both _ _ f.0 in
    let h = and_both _ _ g.0 in
    let i = and_both _ _ h.0 in
    let j = and_both _ _ i.0 in
    let k = and_both _ _ j.0 in
    record {
      pair_same = sym q₁ ∙ eqb-true _ _ k.0;
      tail_same = sym q₂ ∙ eqb-true _ _ k.1;
      above = subst (λ (x : ℕ). before < x) q₃ (ltb-true _ _ j.1);
      placed = sym (ap (misplaced class address_ranges) q₃) ∙ sym q₇ ∙ not-true _ f.1;
      cost = subst (λ (x : ℕ). x ≤ L.most_cost) q₄ (leb-true _ _ i.1);
      other = subst (λ (x : ℕ). x ≤ L.most_cost) q₅ (leb-true _ _ h.1);
      bits = subst (λ (x : ℕ). x < 0x7f800000) q₆ (ltb-true _ _ g.1);
    }

-- what a hop record that passed is free of
record Free (L : Layout) (s : List ℕ) (i : ℕ) : Type 0 where
  from : leb (domain_count s) (hop_at L s i).from.0 ≡ false
  to : leb (domain_count s) (hop_at L s i).to.0 ≡ false
  tail : misplaced (class_of s) address_ranges (hop_at L s i).tail.0 ≡ false

free : (L : Layout) (s : List ℕ) (i : ℕ) → hop_verdict L s i ≡ Pass → Free L s i
unfolding hop_verdict hop_malformed
free L s i e =
    let place = domain_count s + i in
    let h = hop_at L s i in
    let last = (and_then-refuse_if (refuse_if (hop_malformed L s i) 17 place and_then refuse_if (hop_misordered L s i) 18 place) (hop_misplaced L s i) 16 place).0 e in
    let front = (and_then-refuse_if (refuse_if (hop_malformed L s i) 17 place) (hop_misordered L s i) 18 place).0 last.0 in
    let malformed = (refuse_if_pass (hop_malformed L s i) 17 place).0 front.0 in
    let four = (or_neither (leb (domain_count s) h.from.0 || leb (domain_count s) h.to.0 || ltb L.most_cost h.cost || ltb L.most_cost (other_cost L s i)) _ malformed).0 in
    let three = (or_neither (leb (domain_count s) h.from.0 || leb (domain_count s) h.to.0 || ltb L.most_cost h.cost) _ four).0 in
    let two = (or_neither (leb (domain_count s) h.from.0 || leb (domain_count s) h.to.0) _ three).0 in
    let ends = or_neither (leb (domain_count s) h.from.0) _ two in
    record { from = ends.0; to = ends.1; tail = (or_neither (misplaced (class_of s) address_ranges h.tail.0) _ last.1).0 }

module _ (L : Layout) (s : List ℕ) (bytes : Bytes s) (i : ℕ) (passed : hop_verdict L s i ≡ Pass)
    (g : GoesOn L s (hop_start L s (suc i)) (class_of s) (number 4 s (hop_start L s i)) (number 4 s (hop_start L s i + 4)) (number 4 s (hop_start L s i + 8))) where
  a : ℕ
  a = hop_start L s i

  b : ℕ
  b = hop_start L s (suc i)

  from_same : (hop_at L s (suc i)).from.0 ≡ (hop_at L s i).from.0
  unfolding hop_at a b
  from_same = sym (high_field 2 2 s b bytes) ∙ ap (λ (x : ℕ). x / 256 ^ 2) g.pair_same ∙ high_field 2 2 s a bytes

  to_same : (hop_at L s (suc i)).to.0 ≡ (hop_at L s i).to.0
  unfolding hop_at a b
  to_same = sym (low_field 2 2 s b bytes) ∙ ap (λ (x : ℕ). x % 256 ^ 2) g.pair_same ∙ low_field 2 2 s a bytes

  tail-same : (hop_at L s (suc i)).tail.0 ≡ (hop_at L s i).tail.0
  unfolding hop_at
  tail-same = g.tail_same

  head-above : (hop_at L s i).head.0 < (hop_at L s (suc i)).head.0
  unfolding hop_at
  head-above = g.above

  well-formed : hop_malformed L s (suc i) ≡ false
  unfolding hop_malformed hop_at
  well-formed =
      let f = free L s i passed in
      neither_or _ _
      (neither_or _ _
      (neither_or _ _
      (neither_or _ _ (ap (leb (domain_count s)) from_same ∙ f.from) (ap (leb (domain_count s)) to_same ∙ f.to))
      (le-ltb L.most_cost _ g.cost))
      (le-ltb L.most_cost _ g.other))
      (lt-leb 0x7f800000 _ g.bits)

  in_order : hop_misordered L s (suc i) ≡ false
  unfolding below
  in_order =
      let h = hop_at L s i in
      let h' = hop_at L s (suc i) in
      hop_misordered-key L s i bytes
      ∙ (rw (from_same, to_same, tail-same, le-ltb h.from.0 h.from.0 (omega arith), eq-eqb h.from.0 h.from.0 refl, le-ltb h.to.0 h.to.0 (omega arith), eq-eqb h.to.0 h.to.0 refl, le-ltb h.tail.0 h.tail.0 (omega arith), eq-eqb h.tail.0 h.tail.0 refl, lt-ltb h.head.0 h'.head.0 head-above) refl)

  placed-head : misplaced (class_of s) address_ranges (hop_at L s (suc i)).head.0 ≡ false
  unfolding hop_at
  placed-head = g.placed

  well_placed : hop_misplaced L s (suc i) ≡ false
  well_placed = neither_or _ _ (ap (misplaced (class_of s) address_ranges) tail-same ∙ (free L s i passed).tail) placed-head

  pub run-passes : hop_verdict L s (suc i) ≡ Pass
  unfolding hop_verdict
  run-passes = rw (well-formed, in_order, well_placed) refl

pub fields-inside : (L : Layout) (s : List ℕ) (i n : ℕ) → HopsWithin L s n → i < n → hop_start L s i + 20 ≤ length s
fields-inside L s i n w h = omega (arith, (hop-within L s i n w h).inside, w.layout.fields)

-- the walk along a run: record `last` is the last that passed, all from `first` up to it did, and the code holds its start, its first eight bytes and its head
pub record Running (L : Layout) (s : List ℕ) (first n at pair tail before i : ℕ) : Type 0 where
  pub last : ℕ
  pub next : i ≡ suc last
  pub further : first ≤ last
  pub within : i ≤ n
  pub start : at ≡ hop_start L s last
  pub pair_is : pair ≡ number 4 s (hop_start L s last)
  pub tail_is : tail ≡ number 4 s (hop_start L s last + 4)
  pub head_is : before ≡ number 4 s (hop_start L s last + 8)
  pub pass : (k : ℕ) → first ≤ k → k ≤ last → hop_verdict L s k ≡ Pass

pub running_start : (L : Layout) (s : List ℕ) (first n at pair tail before : ℕ) → first < n → hop_verdict L s first ≡ Pass → at ≡ hop_start L s first
    → pair ≡ number 4 s at → tail ≡ number 4 s (at + 4) → before ≡ number 4 s (at + 8) → Running L s first n at pair tail before (first + 1)
running_start L s first n at pair tail before h e q p t b =
    record {
      last = first;
      next = omega arith;
      further = omega arith;
      within = omega arith;
      start = q;
      pair_is = p ∙ ap (number 4 s) q;
      tail_is = t ∙ ap (λ (x : ℕ). number 4 s (x + 4)) q;
      head_is = b ∙ ap (λ (x : ℕ). number 4 s (x + 8)) q;
      pass = λ k p q. let same : first ≡ k = omega arith in subst (λ (x : ℕ). hop_verdict L s x ≡ Pass) same e;
    }

module _ {L : Layout} {s : List ℕ} {first n at pair tail before i : ℕ} (bytes : Bytes s) (r : Running L s first n at pair tail before i) where
  pub next_start : at + L.hop_size ≡ hop_start L s i
  next_start = omega (arith, r.start, r.next, ap (λ (x : ℕ). L.hop_size * x) r.next, mul-suc L.hop_size r.last)

  pub next_inside : HopsWithin L s n → i < n → at + L.hop_size + L.hop_size ≤ length s
  next_inside w h = omega (arith, next_start, (hop-within L s i n w h).inside)

  pub running_next : i < n → (class after : ℕ) → class ≡ class_of s → GoesOn L s (at + L.hop_size) class pair tail before → after ≡ number 4 s (at + L.hop_size + 8)
      → Running L s first n (at + L.hop_size) pair tail after (i + 1)
  running_next h class after c g e =
      let l = r.last in
      let begins : at + L.hop_size ≡ hop_start L s (suc l) = next_start ∙ ap (hop_start L s) r.next in
      let there : GoesOn L s (hop_start L s (suc l)) (class_of s) (number 4 s (hop_start L s l)) (number 4 s (hop_start L s l + 4)) (number 4 s (hop_start L s l + 8)) =
      subst (λ (x : ℕ). GoesOn L s (hop_start L s (suc l)) (class_of s) (number 4 s (hop_start L s l)) (number 4 s (hop_start L s l + 4)) x) r.head_is
      (subst (λ (x : ℕ). GoesOn L s (hop_start L s (suc l)) (class_of s) (number 4 s (hop_start L s l)) x before) r.tail_is
      (subst (λ (x : ℕ). GoesOn L s (hop_start L s (suc l)) (class_of s) x tail before) r.pair_is
      (subst (λ (x : ℕ). GoesOn L s (hop_start L s (suc l)) x pair tail before) c
      (subst (λ (x : ℕ). GoesOn L s x class pair tail before) begins g)))) in
      record {
        last = suc l;
        next = omega (arith, r.next);
        further = omega (arith, r.further);
        within = omega arith;
        start = begins;
        pair_is = r.pair_is ∙ sym there.pair_same;
        tail_is = r.tail_is ∙ sym there.tail_same;
        head_is = e ∙ ap (λ (x : ℕ). number 4 s (x + 8)) begins;
        pass = λ k p q.
            ⊎_elim
            (λ (same : k ≡ suc l). subst (λ (x : ℕ). hop_verdict L s x ≡ Pass) (sym same) (run-passes L s bytes l (r.pass l r.further (omega arith)) there))
            (λ (less : k < suc l). r.pass k p (omega arith))
            (eq-or-lt_of_le q);
      }

  pub running_end : RunTo L s first n i
  running_end = record { further = omega (arith, r.next, r.further); within = r.within; pass = λ k p q. r.pass k p (omega (arith, r.next)) }
