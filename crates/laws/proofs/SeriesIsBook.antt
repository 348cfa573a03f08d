-- Every series of calls for first and next on an accepted request answers as document 01's book does, for every number and every buffer. By recursion on the
-- calls, while the book's number p and the path last written go together: p is 0 and nothing is written yet, or p is i + 1 and path i was written last.
use mathlib.Core.Path.{◌≡◌, refl, sym, ◌∙◌, ap}
use mathlib.Core.Bool.{Bool, true, false}
use mathlib.Core.List.{List, [], ◌∷◌, map}
use Prim.Native.Nat.{ℕ, zero, suc, ◌≤◌, ◌<◌, zero-le}
use native.Mathlib.Omega.{arith}
use native.Mathlib.Nat.{le_of_eq}
use lib.ListN.{length, get_or, drop, drop_of_length-le}
use lib.Seq.{drop-cons}
use lib.Dec.{eqb, ltb, eqb-suc-zero}
use borrow.Author.Tests.{eqb-true, eqb-false}
use Rattle.model.specs.declared.Refusal.{Refusal}
use Rattle.model.specs.declared.Round.{Round}
use Rattle.model.specs.Lists.{over}
use Rattle.model.specs.Verdict.{refuse_if}
use Rattle.model.specs.Sequence.{Stop, Reading, refused}
use Rattle.model.specs.Request.{Request, Accepted, sequence_of}
use Rattle.model.specs.Path.{Route, paths, shortest_paths}
use Rattle.model.specs.Rounds.{round_of, search_of}
use Rattle.model.specs.Answers.{refused4}
use Rattle.model.specs.Calls.{Outcome, nothing, first_of, answer_path, path_length, first_into, first, next_into, next}
use Rattle.model.specs.Series.{Kind, first_call, next_call, Call, Reply, reply_to, Entry, no_route, book_first, book_next, book_entry, book, refused_call, call_outcome, last_after, run}
use Rattle.laws.proofs.ShortestPathsExact.{Ascending, EachLong}
use Rattle.laws.proofs.FirstNextExact.{first_accepted, next_unstarted, next-after}

-- ---- the book's number and the path last written

abbrev At : List Route → ℕ → List ℕ → Type 0
At listing zero last = last ≡ []
At listing (suc i) last = (i < length listing) × (last ≡ (get_or listing i no_route).addresses)

at_most : (listing : List Route) (p : ℕ) (last : List ℕ) → At listing p last → p ≤ length listing
at_most listing zero last h = zero-le
at_most listing (suc i) last h = h.0

-- they go together after an entry of the book
abbrev Kept : List Route → List ℕ → Entry → Type 0
Kept listing last e = At listing e.after (last_after (eqb e.outcome.numbers.answer 0) e.outcome.written last)

module _ (round : Round) (listing : List Route) (p : ℕ) (last : List ℕ) (h : At listing p last) where
  first-kept : (small empty : Bool) → eqb (length listing) 0 ≡ empty → Kept listing last (book_first small empty round listing p)
  first-kept true empty e = h
  first-kept false true e = h
  first-kept false false e = let n = eqb-false (length listing) 0 e in (omega arith, refl)

  next_kept : (start small end : Bool) → eqb p (length listing) ≡ end → Kept listing last (book_next start small end round listing p)
  next_kept true small end e = h
  next_kept false true end e = h
  next_kept false false true e = h
  next_kept false false false e =
      let n = eqb-false p (length listing) e in
      let l = at_most listing p last h in
      (omega arith, refl)

  entry_kept : (needed : ℕ) (kind : Kind) (room : ℕ) → Kept listing last (book_entry round listing needed p kind room)
  entry_kept needed first_call room = first-kept (ltb room needed) (eqb (length listing) 0) refl
  entry_kept needed next_call room = next_kept (eqb p 0) (ltb room needed) (eqb p (length listing)) refl

-- ---- one call answers as the book's entry does

first_entry : (round : Round) (small : Bool) (listing : List Route) (p : ℕ) → answer_path (refuse_if small 34 0) round 1 listing ≡ (book_first small (eqb (length listing) 0) round listing p).outcome
first_entry round true listing p = refl
first_entry round false [] p = refl
first_entry round false (x ∷ xs) p = ap (λ (b : Bool). (book_first false b round (x ∷ xs) p).outcome) (sym (eqb-suc-zero (length xs)))

next-entry
    : (round : Round) (small end : Bool) (listing : List Route) (i : ℕ) → i < length listing → eqb (suc i) (length listing) ≡ end
    → answer_path (refuse_if small 34 0) round 2 (drop (suc i) listing) ≡ (book_next false small end round listing (suc i)).outcome
next-entry round true end listing i h e = refl
next-entry round false true listing i h e = ap (first_of round 2) (drop_of_length-le listing (le_of_eq (sym (eqb-true (suc i) (length listing) e))))
next-entry round false false listing i h e =
    let n = eqb-false (suc i) (length listing) e in
    ap (first_of round 2) (drop-cons listing (suc i) no_route (omega arith))

-- a call's reply, and the run after it
run_call
    : (r : Request) (last : List ℕ) (c : Call) (cs : List Call) (o : Outcome ℕ)
    → call_outcome r last c.kind (length c.buffer) ≡ o
    → run r last (c ∷ cs) ≡ reply_to c o ∷ run r (last_after (eqb o.numbers.answer 0) o.written last) cs
unfolding run
run_call r last c cs o e = ap (λ (x : Outcome ℕ). reply_to c x ∷ run r (last_after (eqb x.numbers.answer 0) x.written last) cs) e

module _ (r : Request) (sequence : List Stop) (accepted : Accepted r sequence)
    (ascending : Ascending (paths (search_of r sequence)))
    (long : EachLong (path_length sequence) (paths (search_of r sequence)))
  where
    abbrev listing : List Route
    listing = shortest_paths (search_of r sequence)

    abbrev round : Round
    round = round_of r sequence

    call-entry
        : (p : ℕ) (last : List ℕ) → At listing p last
        → (kind : Kind) (room : ℕ) → call_outcome r last kind room ≡ (book_entry round listing (path_length sequence) p kind room).outcome
    call-entry p last h first_call room = first_accepted r sequence accepted room ∙ first_entry round (ltb room (path_length sequence)) listing p
    call-entry zero last h next_call room = ap (λ (l : List ℕ). next r l room) h ∙ next_unstarted r sequence accepted room
    call-entry (suc i) last h next_call room =
        ap (λ (l : List ℕ). next r l room) h.1
        ∙ next-after r sequence accepted ascending long i h.0 room
        ∙ next-entry round (ltb room (path_length sequence)) (eqb (suc i) (length listing)) listing i h.0 refl
        ∙ ap
        (λ (b : Bool). (book_next b (ltb room (path_length sequence)) (eqb (suc i) (length listing)) round listing (suc i)).outcome)
        (sym (eqb-suc-zero i))

    run-book : (calls : List Call) (p : ℕ) (last : List ℕ) → At listing p last → run r last calls ≡ book round listing (path_length sequence) p calls
    unfolding run book
    run-book [] p last h = refl
    run-book (c ∷ cs) p last h =
        let room = length c.buffer in
        let e = book_entry round listing (path_length sequence) p c.kind room in
        run_call r last c cs e.outcome (call-entry p last h c.kind room)
        ∙ ap {B = List Reply}
        (λ (rest : List Reply). reply_to c e.outcome ∷ rest)
        (run-book cs e.after (last_after (eqb e.outcome.numbers.answer 0) e.outcome.written last)
        (entry_kept round listing p last h (path_length sequence) c.kind room))

-- ---- the laws

pub series-is-book
    : (r : Request) (sequence : List Stop) → Accepted r sequence
    → Ascending (paths (search_of r sequence))
    → EachLong (path_length sequence) (paths (search_of r sequence))
    → (calls : List Call) → run r [] calls ≡ book (round_of r sequence) (shortest_paths (search_of r sequence)) (path_length sequence) 0 calls
series-is-book r sequence accepted ascending long calls = run-book r sequence accepted ascending long calls 0 [] refl

refused-call
    : (r : Request) (x : Refusal) → sequence_of r ≡ refused x
    → (last : List ℕ) (kind : Kind) (room : ℕ) → call_outcome r last kind room ≡ nothing (refused4 x)
unfolding first next
refused-call r x e last first_call room = ap (λ (y : Reading (List Stop)). first_into r y room) e
refused-call r x e last next_call room = ap (λ (y : Reading (List Stop)). next_into r y last room) e

-- a request that isn't accepted: every call gives its refusal and leaves the buffer as it is
pub series-refused
    : (r : Request) (x : Refusal) → sequence_of r ≡ refused x
    → (last : List ℕ) (calls : List Call) → run r last calls ≡ map (refused_call x) calls
unfolding run over
series-refused r x e last [] = refl
series-refused r x e last (c ∷ cs) =
    run_call r last c cs (nothing (refused4 x)) (refused-call r x e last c.kind (length c.buffer))
    ∙ ap {B = List Reply}
    (λ (rest : List Reply). refused_call x c ∷ rest)
    (series-refused r x e (last_after (eqb x.number 0) [] last) cs)
