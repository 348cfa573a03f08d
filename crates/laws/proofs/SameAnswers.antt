-- Requests for which the rounds that apply find the same give the same answers: only an answer 0 names a round, so where there is no path the round doesn't
-- show in first, next and a series. The tree's entries are the same in any case, and where the rounds are the same its numbers are too.
use Rattle.std.specs.Prelude.{Ok, Err}
use mathlib.Core.Path.{◌≡◌, refl, sym, subst, ap, ◌∙◌}
use mathlib.Core.Logic.{◌⊎◌, ⊎_elim}
use mathlib.Core.Bool.{Bool, true, false, not}
use mathlib.Core.List.{List, [], ◌∷◌}
use Prim.Native.Nat.{ℕ, suc}
use lib.ListN.{length}
use lib.Dec.{eqb, ltb}
use Rattle.model.specs.declared.Round.{Round}
use Rattle.model.specs.declared.TreeEntry.{TreeEntry}
use Rattle.model.specs.Lists.{keep}
use Rattle.model.specs.Verdict.{Verdict, refuse_if, ◌and_then◌}
use Rattle.model.specs.Sequence.{Stop, Reading}
use Rattle.model.specs.Exclusion.{some_desired}
use Rattle.model.specs.Request.{Request, Accepted, Search, all_exclusions}
use Rattle.model.specs.Path.{Route, shortest_paths}
use Rattle.model.specs.Tree.{tree}
use Rattle.model.specs.Rounds.{round_of, search_of, over_rounds}
use Rattle.model.specs.Calls.{nothing, answer_path, answer_tree, room_verdict, build_tree, first, next, next_into, path_length, greater_than}
use Rattle.model.specs.Answers.{Numbers, plain4, done4}
use Rattle.model.specs.Series.{Kind, first_call, next_call, Call, Reply, reply_to, Entry, unchanged, refusal, book_first, book_entry, book, replies, replies_by}
use Rattle.laws.proofs.FirstNextExact.{first_accepted}
use Rattle.laws.proofs.Hits.{SameFound}
pub use Rattle.laws.proofs.SameEntries.{SameEntries}

-- ---- what is said of two requests

-- first, next and every series answer the same
pub record SameAnswers (r r' : Request) : Type 0 where
  pub first : (room : ℕ) → first r room ≡ first r' room
  pub next : (given : List ℕ) (room : ℕ) → next r given room ≡ next r' given room
  pub replies : (calls : List Call) → replies r calls ≡ replies r' calls

-- two requests with their sequences: what is found in the rounds that apply is the same; the rounds are the same or there is no path, and the same where X set
-- comes up among all exclusions of both or of neither
pub record SameRound (r r' : Request) (sequence sequence' : List Stop) : Type 0 where
  pub long : length sequence ≡ length sequence'
  pub found : SameFound (search_of r sequence) (search_of r' sequence')
  pub round : (round_of r sequence ≡ round_of r' sequence') ⊎ (shortest_paths (search_of r sequence) ≡ [])
  pub clear
      : some_desired (all_exclusions r.exclude sequence) ≡ some_desired (all_exclusions r'.exclude sequence')
      → round_of r sequence ≡ round_of r' sequence'

-- ---- first, next and a series

-- what tells a round only with a path
told
    : {A : Type 0} (answer : Round → List Route → A)
    → ((x y : Round) → answer x [] ≡ answer y [])
    → (r r' : Request) (sequence sequence' : List Stop)
    → SameRound r r' sequence sequence'
    → answer (round_of r sequence) (shortest_paths (search_of r sequence)) ≡ answer (round_of r' sequence') (shortest_paths (search_of r' sequence'))
told answer none r r' sequence sequence' same =
    let listing = same.found.shortest in
    ⊎_elim
    (λ (e : round_of r sequence ≡ round_of r' sequence'). λ i. answer (e i) (listing i))
    (λ (z : shortest_paths (search_of r sequence) ≡ []).
    ap (answer (round_of r sequence)) z ∙ none (round_of r sequence) (round_of r' sequence') ∙ ap (answer (round_of r' sequence')) (sym z ∙ listing))
    same.round

no_path_lem : (v : Verdict) (x y : Round) (n : ℕ) → answer_path v x n [] ≡ answer_path v y n []
no_path_lem (Ok _) x y n = refl
no_path_lem (Err q) x y n = refl

none_greater : (v : Verdict) (x y : Round) (given : List ℕ) → answer_path v x 2 (greater_than given []) ≡ answer_path v y 2 (greater_than given [])
unfolding greater_than keep
none_greater v x y given = no_path_lem v x y 2

-- what a series answers to a call where there is no path; the number that it holds stays 0
abbrev none_for : Kind → Bool → Numbers
none_for first_call true = refusal 34
none_for first_call false = plain4 1
none_for next_call small = refusal 33

entry-none : (x : Round) (needed : ℕ) (kind : Kind) (room : ℕ) → book_entry x [] needed 0 kind room ≡ unchanged 0 (none_for kind (ltb room needed))
entry-none x needed first_call room = go (ltb room needed)
  where
    go : (small : Bool) → book_first small true x [] 0 ≡ unchanged 0 (none_for first_call small)
    go true = refl
    go false = refl
entry-none x needed next_call room = refl

book-step
    : (x : Round) (needed : ℕ) (c : Call) (cs : List Call)
    → book x [] needed 0 (c ∷ cs) ≡ reply_to c (nothing (none_for c.kind (ltb (length c.buffer) needed))) ∷ book x [] needed 0 cs
unfolding book
book-step x needed c cs =
    ap {B = List Reply} (λ (e : Entry). reply_to c e.outcome ∷ book x [] needed e.after cs) (entry-none x needed c.kind (length c.buffer))

book_none : (x y : Round) (needed : ℕ) (calls : List Call) → book x [] needed 0 calls ≡ book y [] needed 0 calls
unfolding book
book_none x y needed [] = refl
book_none x y needed (c ∷ cs) =
    book-step x needed c cs
    ∙ ap {B = List Reply} (λ (rest : List Reply). reply_to c (nothing (none_for c.kind (ltb (length c.buffer) needed))) ∷ rest) (book_none x y needed cs)
    ∙ sym (book-step y needed c cs)

-- ---- tree

tree-entries
    : (room : ℕ) (x y : Round) (S T : Search) → SameFound S T
    → SameEntries (answer_tree (room_verdict (length (tree S)) room) x S) (answer_tree (room_verdict (length (tree T)) room) y T)
tree-entries room x y S T f =
    subst (λ (ts : List TreeEntry). SameEntries (answer_tree (room_verdict (length (tree S)) room) x S) (answer_tree (room_verdict (length ts) room) y T)) f.tree
    (go (room_verdict (length (tree S)) room))
  where
    go : (v : Verdict) → SameEntries (answer_tree v x S) (answer_tree v y T)
    go (Ok _) = record { answer = refl; place = refl; entries = ap length f.tree; written = f.tree; many = refl }
    go (Err q) = record { answer = refl; place = refl; entries = refl; written = refl; many = refl }

tree-whole
    : (room : ℕ) (x y : Round) (S T : Search) → SameFound S T
    → x ≡ y
    → answer_tree (room_verdict (length (tree S)) room) x S ≡ answer_tree (room_verdict (length (tree T)) room) y T
tree-whole room x y S T f e =
    go (room_verdict (length (tree S)) room) ∙ ap (λ (ts : List TreeEntry). answer_tree (room_verdict (length ts) room) y T) f.tree
  where
    go : (v : Verdict) → answer_tree v x S ≡ answer_tree v y T
    go (Ok _) = λ i. record { numbers = done4 (length (f.tree i)) (over_rounds (e i) (f.tally i)) (e i); written = f.tree i }
    go (Err q) = refl

-- ---- the laws

module _
    (r r' : Request) (sequence sequence' : List Stop) (accepted : Accepted r sequence) (accepted' : Accepted r' sequence')
    (rounds : SameRound r r' sequence sequence') where
  -- the room that a path needs is the same
  abbrev fitting : List ℕ → ℕ → ℕ → Verdict
  fitting given room n = refuse_if (not (eqb (length given) n)) 33 0 and_then room_verdict n room

  needed : path_length sequence ≡ path_length sequence'
  needed = ap suc rounds.long

  -- the round and the shortest paths of the second
  abbrev round' : Round
  round' = round_of r' sequence'

  abbrev found' : List Route
  found' = shortest_paths (search_of r' sequence')

  same_first : (room : ℕ) → first r room ≡ first r' room
  same_first room =
      let roomy = room_verdict (path_length sequence) room in
      first_accepted r sequence accepted room
      ∙ told (λ (x : Round) (ps : List Route). answer_path roomy x 1 ps) (λ x y. no_path_lem roomy x y 1) r r' sequence sequence' rounds
      ∙ ap (λ (n : ℕ). answer_path (room_verdict n room) round' 1 found') needed
      ∙ sym (first_accepted r' sequence' accepted' room)

  same_next : (given : List ℕ) (room : ℕ) → next r given room ≡ next r' given room
  unfolding next
  same_next given room =
      let fit = fitting given room (path_length sequence) in
      ap (λ (z : Reading (List Stop)). next_into r z given room) accepted
      ∙ told (λ (x : Round) (ps : List Route). answer_path fit x 2 (greater_than given ps)) (λ x y. none_greater fit x y given) r r' sequence sequence' rounds
      ∙ ap (λ (n : ℕ). answer_path (fitting given room n) round' 2 (greater_than given found')) needed
      ∙ sym (ap (λ (z : Reading (List Stop)). next_into r' z given room) accepted')

  same-replies : (calls : List Call) → replies r calls ≡ replies r' calls
  unfolding replies
  same-replies calls =
      ap (λ (z : Reading (List Stop)). replies_by r z calls) accepted
      ∙ told (λ (x : Round) (ps : List Route). book x ps (path_length sequence) 0 calls) (λ x y. book_none x y (path_length sequence) calls) r r' sequence sequence'
      rounds
      ∙ ap (λ (n : ℕ). book round' found' n 0 calls) needed
      ∙ sym (ap (λ (z : Reading (List Stop)). replies_by r' z calls) accepted')

  pub same-answers : SameAnswers r r'
  same-answers = record { first = same_first; next = same_next; replies = same-replies }

  pub same_entries : (room : ℕ) → SameEntries (build_tree r room) (build_tree r' room)
  unfolding build_tree
  same_entries room =
      rw (accepted, accepted')
      (tree-entries room (round_of r sequence) round' (search_of r sequence) (search_of r' sequence') rounds.found)

  pub same-tree : round_of r sequence ≡ round' → (room : ℕ) → build_tree r room ≡ build_tree r' room
  unfolding build_tree
  same-tree e room =
      rw (accepted, accepted')
      (tree-whole room (round_of r sequence) round' (search_of r sequence) (search_of r' sequence') rounds.found e)
