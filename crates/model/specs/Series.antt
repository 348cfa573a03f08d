-- A series of calls for first and next, and what it must answer, `replies`: document 01's "book", here the reference series, or a refusal. Beside it the run
-- that really makes the calls, each next given the path last written. That the two agree for every request is the law `series-replies`.
use Rattle.std.specs.Prelude.{ℕ, suc, Bool, true, false, List, [], ◌∷◌, map, length, get_or, eqb, ltb}
use Rattle.model.specs.Lists.{over}
use Rattle.model.specs.declared.Refusal.{Refusal}
use Rattle.model.specs.declared.Round.{Round}
use Rattle.model.specs.Sequence.{Stop, Reading, refused, good}
use Rattle.model.specs.Request.{Request, sequence_of}
use Rattle.model.specs.Path.{Route, shortest_paths}
use Rattle.model.specs.Rounds.{round_of, search_of}
use Rattle.model.specs.Answers.{Numbers, refused4, plain4}
use Rattle.model.specs.Calls.{Outcome, nothing, found, path_length, first, next}

pub data Kind : Type 0 where
  first_call next_call : Kind

-- a call lends a result buffer of any length and content
pub record Call : Type 0 where
  pub kind : Kind
  pub buffer : List ℕ

-- what a call gives back: all its numbers, and the buffer afterwards
pub record Reply : Type 0 where
  pub numbers : Numbers
  pub buffer : List ℕ

abbrev pub reply_to : Call → Outcome ℕ → Reply
reply_to c o = record { numbers = o.numbers; buffer = over o.written c.buffer }

-- ---- the reference series: it has the shortest paths of a round, which each answer 0 names, and holds a number p, 0 at the start

-- one answer, and the number afterwards
pub record Entry : Type 0 where
  pub outcome : Outcome ℕ
  pub after : ℕ

abbrev pub unchanged : ℕ → Numbers → Entry
unchanged p n = record { outcome = nothing n; after = p }

abbrev pub no_route : Route
no_route = record { addresses = []; total = 0 }

-- path i of the listing, counted from 0; then p is i + 1
abbrev pub hands : Round → List Route → ℕ → Entry
hands x listing i = record { outcome = found x (get_or listing i no_route); after = suc i }

abbrev pub refusal : ℕ → Numbers
refusal n = refused4 (record { number = n; place = 0 })

-- a first: room under k + 2 answers 34; no path answers 1; else path 0
abbrev pub book_first : Bool → Bool → Round → List Route → ℕ → Entry
book_first true empty x listing p = unchanged p (refusal 34)
book_first false true x listing p = unchanged p (plain4 1)
book_first false false x listing p = hands x listing 0

-- a next: at p = 0 it answers 33; else room under k + 2 answers 34; p = m answers 2; else path p
abbrev pub book_next : Bool → Bool → Bool → Round → List Route → ℕ → Entry
book_next true small end x listing p = unchanged p (refusal 33)
book_next false true end x listing p = unchanged p (refusal 34)
book_next false false true x listing p = unchanged p (plain4 2)
book_next false false false x listing p = hands x listing p

abbrev pub book_entry : Round → List Route → ℕ → ℕ → Kind → ℕ → Entry
book_entry x listing needed p first_call room = book_first (ltb room needed) (eqb (length listing) 0) x listing p
book_entry x listing needed p next_call room = book_next (eqb p 0) (ltb room needed) (eqb p (length listing)) x listing p

-- the replies to a list of calls, from the number p on
unfoldable pub book : Round → List Route → ℕ → ℕ → List Call → List Reply
book x listing needed p [] = []
book x listing needed p (c ∷ cs) =
    let e = book_entry x listing needed p c.kind (length c.buffer) in
    reply_to c e.outcome ∷ book x listing needed e.after cs

-- ---- what a series must answer: for an accepted request the reference series from p = 0 on; else each call gives the refusal and keeps its buffer

abbrev pub refused_call : Refusal → Call → Reply
refused_call x c = record { numbers = refused4 x; buffer = c.buffer }

abbrev pub replies_by : Request → Reading (List Stop) → List Call → List Reply
replies_by r (refused x) calls = map (refused_call x) calls
replies_by r (good sequence) calls = book (round_of r sequence) (shortest_paths (search_of r sequence)) (path_length sequence) 0 calls

unfoldable pub replies : Request → List Call → List Reply
replies r calls = replies_by r (sequence_of r) calls

-- ---- the run of the calls themselves: a next is given a copy of the path last written, before any an empty list

abbrev pub call_outcome : Request → List ℕ → Kind → ℕ → Outcome ℕ
call_outcome r last first_call room = first r room
call_outcome r last next_call room = next r last room

-- the path last written: the new one where the answer is 0
abbrev pub last_after : Bool → List ℕ → List ℕ → List ℕ
last_after true new old = new
last_after false new old = old

unfoldable pub run : Request → List ℕ → List Call → List Reply
run r last [] = []
run r last (c ∷ cs) =
    let o = call_outcome r last c.kind (length c.buffer) in
    reply_to c o ∷ run r (last_after (eqb o.numbers.answer 0) o.written last) cs
