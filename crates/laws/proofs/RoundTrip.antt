-- The round trip of the two calls on lists: where `write_list` answers that it wrote n bytes, `read_include` on these bytes, with the first domain as ingress
-- and enough room, answers the sequence that was written. By `reads-back`; that 0 is answered for a written list alone follows from the refusals' numbers.
use Rattle.std.specs.Prelude.{Err}
use Prim.Native.Nat.{ℕ, zero, suc, ◌+◌, ◌^◌, ◌≤◌, ◌<◌}
use native.Mathlib.Omega.{arith}
use mathlib.Core.Path.{◌≡◌, refl, ap, ap₂, ◌∙◌}
use mathlib.Core.Bool.{Bool, true, false, ◌||◌}
use mathlib.Core.List.{List}
use lib.ListN.{length, get_or}
use lib.Dec.{ltb}
use borrow.Author.Tests.{le-ltb}
use Rattle.model.specs.declared.Refusal.{Refusal}
use Rattle.model.specs.Verdict.{Verdict, Pass, refuse_if, ◌and_then◌, in_turn}
use Rattle.model.specs.Reserved.{as_ranges, address_ranges, misplaced}
use Rattle.model.specs.Profile.{Layout, layout_in, class_of, domain_count, hop_count, header_wrong, counts_wrong, length_wrong, header_verdict, domain_at, domain_malformed, domain_misordered, domain_verdict, hop_at, hop_malformed, hop_misordered, hop_verdict, crowded, crowded_verdict, profile_verdict, domains, verdict_on}
use Rattle.model.specs.Sequence.{Stop, Reading}
use Rattle.model.specs.WrittenList.{stops, written, unwritable}
use Rattle.model.specs.Answers.{Numbers, done2, done3}
use Rattle.model.specs.Calls.{Outcome, answer_write, answer_read, all_exrs, write_list, reading_of, read_into, read_include}
use Rattle.laws.proofs.BigEndian.{Bytes}
use Rattle.laws.proofs.Stops.{stops-count, stops-exrs, accepts}
use Rattle.laws.proofs.ReadsBack.{reads-back}

-- ---- a refusal's number is not 0

data Numbered : Verdict → Type 0 where
  passes : Numbered Pass
  numbers : {r : Refusal} → 1 ≤ r.number → Numbered (Err r)

numbered_if : (b : Bool) (n p : ℕ) → 1 ≤ n → Numbered (refuse_if b n p)
numbered_if true n p h = numbers h
numbered_if false n p h = passes

numbered_then : {v w : Verdict} → Numbered v → Numbered w → Numbered (v and_then w)
numbered_then passes k = k
numbered_then (numbers h) k = numbers h

numbered_turn : (check : ℕ → Verdict) → ((i : ℕ) → Numbered (check i)) → (i n : ℕ) → Numbered (in_turn check i n)
unfolding in_turn
numbered_turn check h i zero = passes
numbered_turn check h i (suc n) = numbered_then (h i) (numbered_turn check h (suc i) n)

numbered_three : (a b c : Bool) (k m n p : ℕ) → 1 ≤ k → 1 ≤ m → 1 ≤ n → Numbered (refuse_if a k p and_then refuse_if b m p and_then refuse_if c n p)
numbered_three a b c k m n p x y z = numbered_then (numbered_then (numbered_if a k p x) (numbered_if b m p y)) (numbered_if c n p z)

module _ (L : Layout) (s : List ℕ) where
  numbered_header : Numbered (header_verdict L s)
  unfolding header_verdict
  numbered_header =
      numbered_then (numbered_three (ltb (length s) 12) (header_wrong L s) (counts_wrong L s) 10 11 12 0 (omega arith) (omega arith) (omega arith))
      (numbered_if (length_wrong L s) 13 0 (omega arith))

  numbered_domain : (i : ℕ) → Numbered (domain_verdict s i)
  unfolding domain_verdict
  numbered_domain i =
      numbered_three (domain_malformed s i) (domain_misordered s i) (misplaced (class_of s) as_ranges (domain_at s i).asn) 14 15 16 i (omega arith) (omega arith) (omega arith)

  numbered_hop : (i : ℕ) → Numbered (hop_verdict L s i)
  unfolding hop_verdict
  numbered_hop i = numbered_three (hop_malformed L s i) (hop_misordered L s i) (misplaced (class_of s) address_ranges (hop_at L s i).tail.0 || misplaced (class_of s) address_ranges (hop_at L s i).head.0) 17 18 16 (domain_count s + i) (omega arith) (omega arith) (omega arith)

  numbered_crowded : (i : ℕ) → Numbered (crowded_verdict L s i)
  unfolding crowded_verdict
  numbered_crowded i = numbered_if (crowded L s i) 19 (domain_count s + i) (omega arith)

  numbered_profile : Numbered (profile_verdict L s)
  unfolding profile_verdict
  numbered_profile =
      numbered_then
      (numbered_then
      (numbered_then numbered_header (numbered_turn (domain_verdict s) numbered_domain 0 (domain_count s)))
      (numbered_turn (hop_verdict L s) numbered_hop 0 (hop_count s)))
      (numbered_turn (crowded_verdict L s) numbered_crowded 0 (hop_count s))

-- ---- a list was written

module _ (profile indexes marks nodes counts exrs : List ℕ) where
  bytes : List ℕ
  bytes = written (domains profile) (stops indexes marks nodes counts exrs)

  -- the profile was accepted and the sequence can be written; the bytes are those of the written list
  pub record Wrote (n room : ℕ) : Type 0 where
    pub accepted : verdict_on profile ≡ Pass
    pub writable : unwritable (domains profile) indexes marks nodes counts exrs ≡ false
    pub bytes-written : (write_list profile indexes marks nodes counts exrs room).written ≡ written (domains profile) (stops indexes marks nodes counts exrs)
    pub size : n ≡ length (written (domains profile) (stops indexes marks nodes counts exrs))

  wrote_by : (n room : ℕ) (v : Verdict) (u s : Bool) → Numbered v → verdict_on profile ≡ v → unwritable (domains profile) indexes marks nodes counts exrs ≡ u
      → ltb room (length bytes) ≡ s
      → write_list profile indexes marks nodes counts exrs room ≡ answer_write (v and_then refuse_if u 35 0 and_then refuse_if s 34 0) bytes
      → done2 n ≡ (write_list profile indexes marks nodes counts exrs room).numbers
      → Wrote n room
  unfolding bytes
  wrote_by n room v u s (numbers {r = r} h) e f g o d =
      let zero_number : 0 ≡ r.number = ap (λ (x : Numbers). x.answer) (d ∙ ap (λ (x : Outcome ℕ). x.numbers) o) in
      absurd (omega arith)
  wrote_by n room v true s passes e f g o d =
      let zero_number : ◌≡◌ {A = ℕ} 0 35 = ap (λ (x : Numbers). x.answer) (d ∙ ap (λ (x : Outcome ℕ). x.numbers) o) in
      absurd (omega arith)
  wrote_by n room v false true passes e f g o d =
      let zero_number : ◌≡◌ {A = ℕ} 0 34 = ap (λ (x : Numbers). x.answer) (d ∙ ap (λ (x : Outcome ℕ). x.numbers) o) in
      absurd (omega arith)
  wrote_by n room v false false passes e f g o d =
      record {
        accepted = e;
        writable = f;
        bytes-written = ap (λ (x : Outcome ℕ). x.written) o;
        size = ap (λ (x : Numbers). get_or x.others 1 0) (d ∙ ap (λ (x : Outcome ℕ). x.numbers) o);
      }

  pub wrote : (n room : ℕ) → done2 n ≡ (write_list profile indexes marks nodes counts exrs room).numbers → Wrote n room
  unfolding write_list bytes
  wrote n room d = wrote_by n room _ _ _ (numbered_profile (layout_in profile) profile) refl refl refl refl d

  -- what was written is read again: the sequence, as many domains and bytes of EXRS as were given
  pub read_again : (n room capacity spare : ℕ) → Bytes profile → ((i : ℕ) → get_or nodes i 0 < 2 ^ 32) → Bytes exrs
      → done2 n ≡ (write_list profile indexes marks nodes counts exrs room).numbers
      → length indexes ≤ capacity
      → length exrs ≤ spare
      → read_include profile (get_or indexes 0 0) (write_list profile indexes marks nodes counts exrs room).written capacity spare
      ≡ record { numbers = done3 (length indexes) (length exrs); written = stops indexes marks nodes counts exrs }
  unfolding read_include
  read_again n room capacity spare profile-bytes addresses exrs-bytes d fits fits-too =
      let w = wrote n room d in
      let a = accepts (domains profile) indexes marks nodes counts exrs w.writable in
      let sequence : List Stop = stops indexes marks nodes counts exrs in
      let count : length sequence ≡ length indexes = stops-count indexes marks nodes counts exrs a.as_many_marks a.as_many_nodes a.as_many_counts in
      let all : all_exrs sequence ≡ exrs = stops-exrs indexes marks nodes counts exrs a.as_many_marks a.as_many_nodes a.as_many_counts a.all_bytes in
      ap (λ (l : List ℕ). read_into (reading_of profile (get_or indexes 0 0) l) capacity spare) w.bytes-written
      ∙ ap (λ (r : Reading (List Stop)). read_into r capacity spare) (reads-back profile indexes marks nodes counts exrs profile-bytes addresses exrs-bytes w.accepted w.writable)
      ∙ ap₂ (λ (b c : Bool). answer_read (refuse_if b 34 0 and_then refuse_if c 34 0) sequence) (le-ltb capacity (length sequence) (omega arith))
      (le-ltb spare (length (all_exrs sequence)) (omega (arith, ap length all)))
      ∙ ap₂ (λ (k m : ℕ). record { numbers = done3 k m; written = sequence }) count (ap length all)
