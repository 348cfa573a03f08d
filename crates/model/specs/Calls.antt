-- For each public call its whole outcome as a function of its inputs and of the capacity of what is lent to it: the numbers that it answers, and what it
-- writes at the start of each lent buffer (nothing on a refusal). Document 01, "Numbers the calculator gives". Capacity is document 01's "room".
use Rattle.std.specs.Prelude.{ℕ, suc, not, List, [], ◌∷◌, length, eqb, ltb, Ok, Err}
use Rattle.std.proofs.Math.Option.{Option, none, some}
use Rattle.std.specs.Float.{binary32}
use Rattle.std.specs.Float.Ieee.{to_bits}
use Rattle.model.specs.declared.Round.{Round}
use Rattle.model.specs.declared.ListKind.TheVariants.{Include}
use Rattle.model.specs.declared.TreeEntry.{TreeEntry}
use Rattle.model.specs.Lists.{below, each, keep}
use Rattle.model.specs.Verdict.{Verdict, refuse_if, ◌and_then◌}
use Rattle.model.specs.Profile.{domains, verdict_on}
use Rattle.model.specs.Subobject.{form_verdict}
use Rattle.model.specs.Sequence.{Stop, Reading, refused, good, meaning}
use Rattle.model.specs.WrittenList.{written, stops, unwritable}
use Rattle.model.specs.Floats.{float_of}
use Rattle.model.specs.Request.{Request, Search, ingress_verdict, size_verdict, reading_input, provided, sequence_of}
use Rattle.model.specs.Path.{Route, shortest_paths}
use Rattle.model.specs.Tree.{tree, tally}
use Rattle.model.specs.Rounds.{round_of, search_of, over_rounds}
use Rattle.model.specs.Answers.{Numbers, refused1, refused2, refused3, refused4, done2, done3, done4, plain4}

-- the numbers answered, and the elements written
pub record Outcome (A : Type 0) : Type 0 where
  pub numbers : Numbers
  pub written : List A

abbrev pub nothing : {A : Type 0} → Numbers → Outcome A
nothing n = record { numbers = n; written = [] }

-- capacity too small for what is needed
abbrev pub room_verdict : ℕ → ℕ → Verdict
room_verdict needed room = refuse_if (ltb room needed) 34 0

-- ---- check_profile

abbrev pub profile_numbers : Verdict → Numbers
profile_numbers (Ok _) = record { answer = 0; others = 0 ∷ [] }
profile_numbers (Err r) = refused1 r

unfoldable pub check_profile : List ℕ → Numbers
check_profile profile = profile_numbers (verdict_on profile)

-- ---- read_include: the checks whose inputs it takes, then the capacity for each domain and for all EXRS together

unfoldable pub reading_of : List ℕ → ℕ → List ℕ → Reading (List Stop)
reading_of profile ingress list =
    provided
    (verdict_on profile
    and_then ingress_verdict profile ingress
    and_then size_verdict list 0
    and_then form_verdict Include list)
    (meaning (reading_input profile) ingress list)

-- the bytes of all EXRS, domain by domain
unfoldable pub all_exrs : List Stop → List ℕ
all_exrs sequence = each (λ (p : Stop). p.exrs) sequence

abbrev pub answer_read : Verdict → List Stop → Outcome Stop
answer_read (Err r) sequence = nothing (refused3 r)
answer_read (Ok _) sequence = record { numbers = done3 (length sequence) (length (all_exrs sequence)); written = sequence }

-- `room` is that for the domains, `bytes` that for the EXRS
abbrev pub read_into : Reading (List Stop) → ℕ → ℕ → Outcome Stop
read_into (refused r) room bytes = nothing (refused3 r)
read_into (good sequence) room bytes = answer_read (room_verdict (length sequence) room and_then room_verdict (length (all_exrs sequence)) bytes) sequence

unfoldable pub read_include : List ℕ → ℕ → List ℕ → ℕ → ℕ → Outcome Stop
read_include profile ingress list room bytes = read_into (reading_of profile ingress list) room bytes

-- what a reading puts into the lent buffers for an entry constraint: the mark, and the node or 0
abbrev pub pin_mark : Option ℕ → ℕ
pin_mark none = 0
pin_mark (some node) = 1

abbrev pub pin_node : Option ℕ → ℕ
pin_node none = 0
pin_node (some node) = node

-- ---- write_list: the profile, then 35, then 34

abbrev pub answer_write : Verdict → List ℕ → Outcome ℕ
answer_write (Err r) bytes = nothing (refused2 r)
answer_write (Ok _) bytes = record { numbers = done2 (length bytes); written = bytes }

unfoldable pub write_list : List ℕ → List ℕ → List ℕ → List ℕ → List ℕ → List ℕ → ℕ → Outcome ℕ
write_list profile indexes marks nodes counts exrs room =
    let ds = domains profile in
    let bytes = written ds (stops indexes marks nodes counts exrs) in
    answer_write
    (verdict_on profile
    and_then refuse_if (unwritable ds indexes marks nodes counts exrs) 35 0
    and_then room_verdict (length bytes) room)
    bytes

-- ---- tree: the request's checks, then the capacity for every entry; the tree of the round that applies, though the bound isn't applied to its entries

abbrev pub answer_tree : Verdict → Round → Search → Outcome TreeEntry
answer_tree (Err r) x S = nothing (refused4 r)
answer_tree (Ok _) x S = record { numbers = done4 (length (tree S)) (over_rounds x (tally S)) x; written = tree S }

abbrev pub tree_into : Request → Reading (List Stop) → ℕ → Outcome TreeEntry
tree_into r (refused x) room = nothing (refused4 x)
tree_into r (good sequence) room =
    answer_tree (room_verdict (length (tree (search_of r sequence))) room) (round_of r sequence) (search_of r sequence)

unfoldable pub build_tree : Request → ℕ → Outcome TreeEntry
build_tree r room = tree_into r (sequence_of r) room

-- ---- first and next: the request's checks, for next 33, then 34, then the search of the round that applies

-- a path of a round: its addresses, and its total as a whole number and as the nearest float
abbrev pub found : Round → Route → Outcome ℕ
found x p = record { numbers = done4 p.total (to_bits binary32 (float_of p.total)) x; written = p.addresses }

-- the first of the paths; where there is none, the number 1 or 2
abbrev pub first_of : Round → ℕ → List Route → Outcome ℕ
first_of x None-number [] = nothing (plain4 None-number)
first_of x None-number (p ∷ ps) = found x p

abbrev pub answer_path : Verdict → Round → ℕ → List Route → Outcome ℕ
answer_path (Err r) x None-number ps = nothing (refused4 r)
answer_path (Ok _) x None-number ps = first_of x None-number ps

-- a path of the sequence has k + 2 addresses
abbrev pub path_length : List Stop → ℕ
path_length sequence = suc (length sequence)

abbrev pub first_into : Request → Reading (List Stop) → ℕ → Outcome ℕ
first_into r (refused x) room = nothing (refused4 x)
first_into r (good sequence) room = answer_path (room_verdict (path_length sequence) room) (round_of r sequence) 1 (shortest_paths (search_of r sequence))

unfoldable pub first : Request → ℕ → Outcome ℕ
first r room = first_into r (sequence_of r) room

-- the shortest paths greater than a list of addresses, whether or not that is itself a path
unfoldable pub greater_than : List ℕ → List Route → List Route
greater_than given ps = keep (λ (p : Route). below given p.addresses) ps

-- what next asks of what it is lent: a given list of a path's length, 33, then the capacity, 34
abbrev pub given_verdict : ℕ → ℕ → ℕ → Verdict
given_verdict given long room = refuse_if (not (eqb given long)) 33 0 and_then room_verdict long room

abbrev pub next_into : Request → Reading (List Stop) → List ℕ → ℕ → Outcome ℕ
next_into r (refused x) given room = nothing (refused4 x)
next_into r (good sequence) given room =
    answer_path
    (given_verdict (length given) (path_length sequence) room)
    (round_of r sequence)
    2
    (greater_than given (shortest_paths (search_of r sequence)))

unfoldable pub next : Request → List ℕ → ℕ → Outcome ℕ
next r given room = next_into r (sequence_of r) given room
