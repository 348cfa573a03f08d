-- The words in which it is said what a series hands out: its calls, its replies, and the path last handed out.
use mathlib.Core.List.{List, [], ◌∷◌, map, Memᴰ}
use Prim.Native.Nat.{ℕ, ◌-◌, ◌≤◌}
use lib.ListN.{length, get_or, take}
use lib.Dec.{eqb}
use Rattle.model.specs.declared.Round.{Round}
use Rattle.model.specs.Lists.{over}
use Rattle.model.specs.Path.{Route}
use Rattle.model.specs.Answers.{plain4}
use Rattle.model.specs.Calls.{found}
use Rattle.model.specs.Series.{first_call, next_call, Call, Reply, no_route, last_after}

-- ---- the words of the claims

-- a next, and a first followed by nexts, with these buffers
abbrev pub next_with : List ℕ → Call
next_with b = record { kind = next_call; buffer = b }

abbrev pub first_with : List ℕ → Call
first_with b = record { kind = first_call; buffer = b }

abbrev pub first_then_nexts : List (List ℕ) → List Call
first_then_nexts [] = []
first_then_nexts (b ∷ bs) = first_with b ∷ map next_with bs

-- a path for each buffer, in order, and behind the last path 2 for each, with its buffer as it was
unfoldable pub handed_out : Round → List Route → List (List ℕ) → List Reply
handed_out round ps [] = []
handed_out round [] (b ∷ bs) = record { numbers = plain4 2; buffer = b } ∷ handed_out round [] bs
handed_out round (p ∷ ps) (b ∷ bs) = record { numbers = (found round p).numbers; buffer = over p.addresses b } ∷ handed_out round ps bs

-- each buffer has room for a path
abbrev pub Roomy : ℕ → List (List ℕ) → Type 0
Roomy needed bs = (b : List ℕ) → Memᴰ b bs → needed ≤ length b

-- the path last handed out, read off the replies: the start of the buffer behind the last answer 0; before any the empty list
unfoldable pub last_handed : ℕ → List ℕ → List Reply → List ℕ
last_handed needed last [] = last
last_handed needed last (x ∷ xs) = last_handed needed (last_after (eqb x.numbers.answer 0) (take needed x.buffer) last) xs

-- the listing's last path
abbrev pub last_path : List Route → List ℕ
last_path listing = (get_or listing (length listing - 1) no_route).addresses

abbrev pub no_reply : Reply
no_reply = record { numbers = plain4 0; buffer = [] }

-- reply i of a series
abbrev pub reply_at : ℕ → List Reply → Reply
reply_at i xs = get_or xs i no_reply
