-- What every call says and writes by its answer: on any answer but 0 nothing is written and every number but the place is 0, on 0, 1 and 2 the place too; and an
-- answer is 0, 1, 2 or from 10 to 35. By cases on the checks of each call, whose refusals have these numbers.
use Rattle.std.specs.Prelude.{Ok, Err}
use Prim.Native.Nat.{ℕ, zero, suc, ◌≤◌}
use native.Mathlib.Omega.{arith}
use mathlib.Core.Path.{◌≡◌, refl}
use mathlib.Core.Logic.{inl, inr}
use mathlib.Core.List.{List, [], ◌∷◌}
use lib.ListN.{length, get_or, replicate}
use lib.Dec.{eqb, ltb}
use mathlib.Core.Bool.{not}
use Rattle.model.specs.Verdict.{Verdict}
use Rattle.model.specs.declared.Refusal.{Refusal}
use Rattle.model.specs.declared.Round.{Round}
use Rattle.model.specs.Profile.{layout_in, domains, verdict_on}
use Rattle.model.specs.Sequence.{Stop, Reading, refused, good}
use Rattle.model.specs.WrittenList.{written, stops, unwritable}
use Rattle.model.specs.Request.{Request, Search, sequence_of}
use Rattle.model.specs.Path.{Route, shortest_paths}
use Rattle.model.specs.Tree.{tree}
use Rattle.model.specs.Rounds.{round_of, search_of}
use Rattle.model.specs.Answers.{plain4}
use Rattle.model.specs.Calls.{Outcome, profile_numbers, check_profile, room_verdict, answer_read, read_into, reading_of, read_include, answer_write, write_list, answer_tree, tree_into, build_tree, first_of, answer_path, path_length, first_into, first, greater_than, next_into, next, all_exrs}
use Rattle.laws.proofs.RefusalNumbers.{Numbered, Refusing, test, both, more, profile_refusing, Reads, sequence_reads, reading_reads}
pub use Rattle.laws.proofs.QuietNumbers.{QuietNumbers}

-- ---- what is said of an answer

pub record Quiet {A : Type 0} (most : ℕ) (o : Outcome A) : Type 0 where
  pub numbers : QuietNumbers most o.numbers
  pub untouched : (o.numbers.answer ≡ 0 → ⊥) → o.written ≡ []

-- ---- the kinds of answer

zeros : (n i : ℕ) → ◌≡◌ {A = ℕ} (get_or (replicate n 0) i 0) 0
zeros zero i = refl
zeros (suc n) zero = refl
zeros (suc n) (suc i) = zeros n i

module _ (most : ℕ) (high : 35 ≤ most) where
  -- a refusal, with k numbers beside its place
  pub refused-numbers : (k : ℕ) (x : Refusal) → Numbered most x → QuietNumbers most (record { answer = x.number; others = x.place ∷ replicate k 0 })
  refused-numbers k x h = record { known = inr h; others = λ some i. zeros k i; place = λ low. absurd (let b = h.0 in omega arith) }

  -- done: place 0
  pub done_numbers : (more : List ℕ) → QuietNumbers most (record { answer = 0; others = 0 ∷ more })
  done_numbers more = record { known = inl (omega arith); others = λ some. absurd (some refl); place = λ low. refl }

  -- 1 or 2
  none_numbers : (n : ℕ) → n ≤ 2 → QuietNumbers most (plain4 n)
  none_numbers n h = record { known = inl h; others = λ some i. zeros 3 i; place = λ low. refl }

  module _ {A : Type 0} where
    pub refused_quiet : (k : ℕ) (x : Refusal) → Numbered most x → Quiet {A = A} most (record { numbers = record { answer = x.number; others = x.place ∷ replicate k 0 }; written = [] })
    refused_quiet k x h = record { numbers = refused-numbers k x h; untouched = λ some. refl }

    pub done_quiet : (more : List ℕ) (w : List A) → Quiet most (record { numbers = record { answer = 0; others = 0 ∷ more }; written = w })
    done_quiet more w = record { numbers = done_numbers more; untouched = λ some. absurd (some refl) }

  none_quiet : (n : ℕ) → n ≤ 2 → Quiet {A = ℕ} most (record { numbers = plain4 n; written = [] })
  none_quiet n h = record { numbers = none_numbers n h; untouched = λ some. refl }

  -- ---- the calls

  profile_by : (v : Verdict) → Refusing most v → QuietNumbers most (profile_numbers v)
  profile_by (Ok _) h = done_numbers []
  profile_by (Err x) h = refused-numbers 0 x (h.numbered x refl)

  read_by : (v : Verdict) (sequence : List Stop) → Refusing most v → Quiet most (answer_read v sequence)
  read_by (Ok _) sequence h = done_quiet _ sequence
  read_by (Err x) sequence h = refused_quiet 2 x (h.numbered x refl)

  pub room : (needed there : ℕ) → Refusing most (room_verdict needed there)
  room needed there = test most high (ltb there needed) 34 0 (omega arith)

  reading_by : (reading : Reading (List Stop)) (there bytes : ℕ) → Reads most reading → Quiet most (read_into reading there bytes)
  reading_by (refused x) there bytes h = refused_quiet 2 x (h.numbered x refl)
  reading_by (good sequence) there bytes h = read_by _ sequence (both most high (room (length sequence) there) (room (length (all_exrs sequence)) bytes))

  pub write_by : (v : Verdict) (bytes : List ℕ) → Refusing most v → Quiet most (answer_write v bytes)
  write_by (Ok _) bytes h = done_quiet _ bytes
  write_by (Err x) bytes h = refused_quiet 1 x (h.numbered x refl)

  tree_by : (v : Verdict) (x : Round) (S : Search) → Refusing most v → Quiet most (answer_tree v x S)
  tree_by (Ok _) x S h = done_quiet _ (tree S)
  tree_by (Err y) x S h = refused_quiet 3 y (h.numbered y refl)

  first_by_lem : (x : Round) (n : ℕ) (ps : List Route) → n ≤ 2 → Quiet most (first_of x n ps)
  first_by_lem x n [] h = none_quiet n h
  first_by_lem x n (p ∷ ps) h = done_quiet _ p.addresses

  path_by : (v : Verdict) (x : Round) (n : ℕ) (ps : List Route) → n ≤ 2 → Refusing most v → Quiet most (answer_path v x n ps)
  path_by (Ok _) x n ps h k = first_by_lem x n ps h
  path_by (Err y) x n ps h k = refused_quiet 3 y (k.numbered y refl)

  module _ (r : Request) where
    pub tree_of : (reading : Reading (List Stop)) (there : ℕ) → Reads most reading → Quiet most (tree_into r reading there)
    tree_of (refused x) there h = refused_quiet 3 x (h.numbered x refl)
    tree_of (good sequence) there h =
        tree_by (room_verdict (length (tree (search_of r sequence))) there) (round_of r sequence) (search_of r sequence) (room (length (tree (search_of r sequence))) there)

    pub first_from_lem : (reading : Reading (List Stop)) (there : ℕ) → Reads most reading → Quiet most (first_into r reading there)
    first_from_lem (refused x) there h = refused_quiet 3 x (h.numbered x refl)
    first_from_lem (good sequence) there h =
        path_by (room_verdict (path_length sequence) there) (round_of r sequence) 1 (shortest_paths (search_of r sequence)) (omega arith) (room (path_length sequence) there)

    pub next_from_lem : (reading : Reading (List Stop)) (given : List ℕ) (there : ℕ) → Reads most reading → Quiet most (next_into r reading given there)
    next_from_lem (refused x) given there h = refused_quiet 3 x (h.numbered x refl)
    next_from_lem (good sequence) given there h =
        path_by _ (round_of r sequence) 2 (greater_than given (shortest_paths (search_of r sequence))) (omega arith)
        (both most high (test most high (not (eqb (length given) (path_length sequence))) 33 0 (omega arith)) (room (path_length sequence) there))

-- ---- one law over all calls

pub record AllQuiet : Type 0 where
  pub check_profile_lem : (profile : List ℕ) → QuietNumbers 35 (check_profile profile)
  pub read-include : (profile : List ℕ) (ingress : ℕ) (list : List ℕ) (there bytes : ℕ) → Quiet 42 (read_include profile ingress list there bytes)
  pub write_list_lem : (profile indexes marks nodes counts exrs : List ℕ) (there : ℕ) → Quiet 35 (write_list profile indexes marks nodes counts exrs there)
  pub build_tree_lem : (r : Request) (there : ℕ) → Quiet 42 (build_tree r there)
  pub first_path : (r : Request) (there : ℕ) → Quiet 42 (first r there)
  pub next_path : (r : Request) (given : List ℕ) (there : ℕ) → Quiet 42 (next r given there)

at_most : 35 ≤ 35
at_most = omega arith

-- with the meaning of an include list, whose highest number is 42
within : 35 ≤ 42
within = omega arith

highest : 42 ≤ 42
highest = omega arith

pub all_quiet : AllQuiet
unfolding check_profile read_include write_list build_tree first next
all_quiet =
    record {
      check_profile_lem = λ profile. profile_by 35 at_most (verdict_on profile) (profile_refusing 35 at_most (layout_in profile) profile);
      read-include = λ profile ingress list there bytes. reading_by 42 within (reading_of profile ingress list) there bytes (reading_reads 42 within highest profile ingress list);
      write_list_lem = λ profile indexes marks nodes counts exrs there.
          let bytes = written (domains profile) (stops indexes marks nodes counts exrs) in
          write_by 35 at_most _ bytes (both 35 at_most (more 35 at_most (profile_refusing 35 at_most (layout_in profile) profile) (unwritable (domains profile) indexes marks nodes counts exrs) 35 0 (omega arith)) (room 35 at_most (length bytes) there));
      build_tree_lem = λ r there. tree_of 42 within r (sequence_of r) there (sequence_reads 42 within highest r);
      first_path = λ r there. first_from_lem 42 within r (sequence_of r) there (sequence_reads 42 within highest r);
      next_path = λ r given there. next_from_lem 42 within r (sequence_of r) given there (sequence_reads 42 within highest r);
    }
