-- Profile W, the second profile of document 01's examples, and every starred case of its section "Profile W and what it gives": one table of rows
-- (call, inputs, the whole outcome); two more tables with cases of document 02's requests [1] and [4] on W, worked out by hand; and one theorem, that each
-- row of all holds, computed from the bytes up.
use Rattle.std.specs.Prelude.{ℕ, zero, suc, ◌+◌, ◌≡◌, refl, true, false, List, [], ◌∷◌, ◌++◌, map, take, drop}
use Rattle.std.proofs.Math.Option.{none}
use Rattle.std.specs.Float.{binary32}
use Rattle.std.specs.Float.Ieee.{of_bits, to_bits, of_fields, odd, size, span, climb, of_int, round, is_nan}
use Rattle.std.specs.Float.Ieee as Ieee
use Rattle.std.specs.Int.Count.{count_trailing_zeros}
use Rattle.model.specs.declared.Limits.{Limits}
use Rattle.model.specs.declared.TreeEntry.{TreeEntry}
use Rattle.model.specs.Lists.{count_from, keep, all, any, each, among, all_different, sum, least, same, below, insert, different, over}
use Rattle.model.specs.Bytes.{number, bytes_of, all_zero}
use Rattle.model.specs.Verdict.{in_turn}
use Rattle.model.specs.Along.{checked_along, places_along}
use Rattle.model.specs.Reserved.{in_ranges, misplaced, nobodys}
use Rattle.model.specs.Profile as Profile
use Rattle.model.specs.Subobject as Subobject
use Rattle.model.specs.Sequence.{Stop, stop, Reading, refused, good, exrs_of, of_system, of_area, enter, name, read_one, read_all, meaning}
use Rattle.model.specs.WrittenList.{written_from, written, stops, whole_exrs, unfit, unwritable}
use Rattle.model.specs.Exclusion.{in_force, some_desired, excluded_domain, excluded_node}
use Rattle.model.specs.Floats.{units, in_range, at_least, at_most, float_of}
use Rattle.model.specs.Request.{Request, request_verdict, sequence_of, all_exclusions, search_in}
use Rattle.model.specs.Path as Path
use Rattle.model.specs.Tree as Tree
use Rattle.model.specs.Rounds.{round_of, search_of}
use Rattle.model.specs.Answers.{Numbers}
use Rattle.model.specs.Calls.{Outcome, path_length, reading_of, all_exrs, read_include, write_list, build_tree, first, greater_than, next}
use Rattle.model.specs.Series.{Call, Reply, first_call, next_call, book, run}

-- ---- the two profiles, a record to a line

-- class 0; the domains 64496, 64497, 64498 of kind 0; the hops SP, SQ; PT, PU, QT, QU; TZ, UZ
unfoldable pub profile_w : List ℕ
profile_w =
    (0x44 ∷ 0x53 ∷ 0x50 ∷ 0x00 ∷ 0x01 ∷ 0x00 ∷ 0x00 ∷ 0x03 ∷ 0x00 ∷ 0x08 ∷ 0x00 ∷ 0x00 ∷ [])
    ++ (0x00 ∷ 0x00 ∷ 0xfb ∷ 0xf0 ∷ 0x00 ∷ 0x00 ∷ 0x00 ∷ 0x00 ∷ 0x00 ∷ 0x00 ∷ 0x00 ∷ 0x00 ∷ 0x00 ∷ 0x00 ∷ 0x00 ∷ 0x00 ∷ 0x00 ∷ 0x00 ∷ 0x00 ∷ 0x00 ∷ [])
    ++ (0x00 ∷ 0x00 ∷ 0xfb ∷ 0xf1 ∷ 0x00 ∷ 0x00 ∷ 0x00 ∷ 0x00 ∷ 0x00 ∷ 0x00 ∷ 0x00 ∷ 0x00 ∷ 0x00 ∷ 0x00 ∷ 0x00 ∷ 0x00 ∷ 0x00 ∷ 0x00 ∷ 0x00 ∷ 0x00 ∷ [])
    ++ (0x00 ∷ 0x00 ∷ 0xfb ∷ 0xf2 ∷ 0x00 ∷ 0x00 ∷ 0x00 ∷ 0x00 ∷ 0x00 ∷ 0x00 ∷ 0x00 ∷ 0x00 ∷ 0x00 ∷ 0x00 ∷ 0x00 ∷ 0x00 ∷ 0x00 ∷ 0x00 ∷ 0x00 ∷ 0x00 ∷ [])
    ++ (0x00 ∷ 0x00 ∷ 0x00 ∷ 0x01 ∷ 0xc0 ∷ 0x00 ∷ 0x02 ∷ 0x01 ∷ 0xc0 ∷ 0x00 ∷ 0x02 ∷ 0x0b ∷ 0x00 ∷ 0x00 ∷ 0x00 ∷ 0x0a ∷ 0x44 ∷ 0x7a ∷ 0x00 ∷ 0x00 ∷ [])
    ++ (0x00 ∷ 0x00 ∷ 0x00 ∷ 0x01 ∷ 0xc0 ∷ 0x00 ∷ 0x02 ∷ 0x01 ∷ 0xc0 ∷ 0x00 ∷ 0x02 ∷ 0x0c ∷ 0x00 ∷ 0x00 ∷ 0x00 ∷ 0x03 ∷ 0x44 ∷ 0x7a ∷ 0x00 ∷ 0x00 ∷ [])
    ++ (0x00 ∷ 0x01 ∷ 0x00 ∷ 0x02 ∷ 0xc0 ∷ 0x00 ∷ 0x02 ∷ 0x0b ∷ 0xc0 ∷ 0x00 ∷ 0x02 ∷ 0x15 ∷ 0x00 ∷ 0x00 ∷ 0x00 ∷ 0x03 ∷ 0x44 ∷ 0x7a ∷ 0x00 ∷ 0x00 ∷ [])
    ++ (0x00 ∷ 0x01 ∷ 0x00 ∷ 0x02 ∷ 0xc0 ∷ 0x00 ∷ 0x02 ∷ 0x0b ∷ 0xc0 ∷ 0x00 ∷ 0x02 ∷ 0x16 ∷ 0x00 ∷ 0x00 ∷ 0x00 ∷ 0x01 ∷ 0x44 ∷ 0x7a ∷ 0x00 ∷ 0x00 ∷ [])
    ++ (0x00 ∷ 0x01 ∷ 0x00 ∷ 0x02 ∷ 0xc0 ∷ 0x00 ∷ 0x02 ∷ 0x0c ∷ 0xc0 ∷ 0x00 ∷ 0x02 ∷ 0x15 ∷ 0x00 ∷ 0x00 ∷ 0x00 ∷ 0x09 ∷ 0x44 ∷ 0x7a ∷ 0x00 ∷ 0x00 ∷ [])
    ++ (0x00 ∷ 0x01 ∷ 0x00 ∷ 0x02 ∷ 0xc0 ∷ 0x00 ∷ 0x02 ∷ 0x0c ∷ 0xc0 ∷ 0x00 ∷ 0x02 ∷ 0x16 ∷ 0x00 ∷ 0x00 ∷ 0x00 ∷ 0x08 ∷ 0x42 ∷ 0xc8 ∷ 0x00 ∷ 0x00 ∷ [])
    ++ (0x00 ∷ 0x02 ∷ 0x00 ∷ 0x02 ∷ 0xc0 ∷ 0x00 ∷ 0x02 ∷ 0x15 ∷ 0xc0 ∷ 0x00 ∷ 0x02 ∷ 0x63 ∷ 0x00 ∷ 0x00 ∷ 0x00 ∷ 0x02 ∷ 0x44 ∷ 0x7a ∷ 0x00 ∷ 0x00 ∷ [])
    ++ (0x00 ∷ 0x02 ∷ 0x00 ∷ 0x02 ∷ 0xc0 ∷ 0x00 ∷ 0x02 ∷ 0x16 ∷ 0xc0 ∷ 0x00 ∷ 0x02 ∷ 0x63 ∷ 0x00 ∷ 0x00 ∷ 0x00 ∷ 0x03 ∷ 0x44 ∷ 0x7a ∷ 0x00 ∷ 0x00 ∷ [])

-- 64500 area 0, 64501 areas 0 and 4, OSPF; no hops
unfoldable pub profile_ospf : List ℕ
profile_ospf =
    (0x44 ∷ 0x53 ∷ 0x50 ∷ 0x00 ∷ 0x01 ∷ 0x00 ∷ 0x00 ∷ 0x03 ∷ 0x00 ∷ 0x00 ∷ 0x00 ∷ 0x00 ∷ [])
    ++ (0x00 ∷ 0x00 ∷ 0xfb ∷ 0xf4 ∷ 0x01 ∷ 0x04 ∷ 0x00 ∷ 0x00 ∷ 0x00 ∷ 0x00 ∷ 0x00 ∷ 0x00 ∷ 0x00 ∷ 0x00 ∷ 0x00 ∷ 0x00 ∷ 0x00 ∷ 0x00 ∷ 0x00 ∷ 0x00 ∷ [])
    ++ (0x00 ∷ 0x00 ∷ 0xfb ∷ 0xf5 ∷ 0x01 ∷ 0x04 ∷ 0x00 ∷ 0x00 ∷ 0x00 ∷ 0x00 ∷ 0x00 ∷ 0x00 ∷ 0x00 ∷ 0x00 ∷ 0x00 ∷ 0x00 ∷ 0x00 ∷ 0x00 ∷ 0x00 ∷ 0x00 ∷ [])
    ++ (0x00 ∷ 0x00 ∷ 0xfb ∷ 0xf5 ∷ 0x01 ∷ 0x04 ∷ 0x00 ∷ 0x00 ∷ 0x00 ∷ 0x04 ∷ 0x00 ∷ 0x00 ∷ 0x00 ∷ 0x00 ∷ 0x00 ∷ 0x00 ∷ 0x00 ∷ 0x00 ∷ 0x00 ∷ 0x00 ∷ [])

-- 192.0.2.1, .11, .12, .21, .22, .99
abbrev pub S : ℕ
S = 0xc0000201

abbrev pub P : ℕ
P = 0xc000020b

abbrev pub Q : ℕ
Q = 0xc000020c

abbrev pub T : ℕ
T = 0xc0000215

abbrev pub U : ℕ
U = 0xc0000216

abbrev pub Z : ℕ
Z = 0xc0000263

-- ---- requests on W: ingress 0, S to Z, bandwidth 100.0, no bound and an empty exclude list unless said

unfoldable pub to_end : List ℕ
to_end = 0x20 ∷ 0x04 ∷ 0xfb ∷ 0xf1 ∷ 0x20 ∷ 0x04 ∷ 0xfb ∷ 0xf2 ∷ []

to_end5 : List ℕ
to_end5 = 0x05 ∷ 0x08 ∷ 0x00 ∷ 0x00 ∷ 0x00 ∷ 0x00 ∷ 0xfb ∷ 0xf1 ∷ 0x05 ∷ 0x08 ∷ 0x00 ∷ 0x00 ∷ 0x00 ∷ 0x00 ∷ 0xfb ∷ 0xf2 ∷ []

-- U pinned before 64498
through_u : List ℕ
through_u = 0x20 ∷ 0x04 ∷ 0xfb ∷ 0xf1 ∷ 0x01 ∷ 0x08 ∷ 0xc0 ∷ 0x00 ∷ 0x02 ∷ 0x16 ∷ 0x20 ∷ 0x00 ∷ 0x20 ∷ 0x04 ∷ 0xfb ∷ 0xf2 ∷ []

-- 64497, then 64496 again
back : List ℕ
back = 0x05 ∷ 0x08 ∷ 0x00 ∷ 0x00 ∷ 0x00 ∷ 0x00 ∷ 0xfb ∷ 0xf1 ∷ 0x05 ∷ 0x08 ∷ 0x00 ∷ 0x00 ∷ 0x00 ∷ 0x00 ∷ 0xfb ∷ 0xf0 ∷ []

-- the exclusion of one node: demanded (X clear), and only desired (X set)
unfoldable pub without : ℕ → List ℕ
without last = 0x01 ∷ 0x08 ∷ 0xc0 ∷ 0x00 ∷ 0x02 ∷ last ∷ 0x20 ∷ 0x01 ∷ []

unfoldable pub desired_without : ℕ → List ℕ
desired_without last = 0x81 ∷ 0x08 ∷ 0xc0 ∷ 0x00 ∷ 0x02 ∷ last ∷ 0x20 ∷ 0x01 ∷ []

-- AS 64511, which W lacks, with X set
desired_without64511 : List ℕ
desired_without64511 = 0xa0 ∷ 0x04 ∷ 0xfb ∷ 0xff ∷ []

unfoldable pub plain : Limits
plain = record { bandwidth = of_bits binary32 0x42c80000; bound = of_bits binary32 0; bounded = false }

unfoldable pub bounded : ℕ → Limits
bounded bits = record { bandwidth = of_bits binary32 0x42c80000; bound = of_bits binary32 bits; bounded = true }

above100 : Limits
above100 = record { bandwidth = of_bits binary32 0x42c80001; bound = of_bits binary32 0; bounded = false }

unfoldable pub on_w : List ℕ → List ℕ → Limits → Request
on_w include exclude limits =
    record { profile = profile_w; ingress = 0; source = S; destination = Z; include = include; exclude = exclude; limits = limits }

-- ---- lists on the second profile, ingress 64500 area 0

short : List ℕ
short = 0x05 ∷ 0x08 ∷ 0x00 ∷ 0x00 ∷ 0x00 ∷ 0x00 ∷ 0xfb ∷ 0xf5 ∷ 0x06 ∷ 0x08 ∷ 0x00 ∷ 0x00 ∷ 0x00 ∷ 0x00 ∷ 0x00 ∷ 0x00 ∷ 0x06 ∷ 0x08 ∷ 0x00 ∷ 0x00 ∷ 0x00 ∷ 0x00 ∷ 0x00 ∷ 0x04 ∷ []

whole : List ℕ
whole = 0x05 ∷ 0x08 ∷ 0x00 ∷ 0x00 ∷ 0x00 ∷ 0x00 ∷ 0xfb ∷ 0xf4 ∷ 0x06 ∷ 0x08 ∷ 0x00 ∷ 0x00 ∷ 0x00 ∷ 0x00 ∷ 0x00 ∷ 0x00 ∷ 0x05 ∷ 0x08 ∷ 0x00 ∷ 0x00 ∷ 0x00 ∷ 0x00 ∷ 0xfb ∷ 0xf5 ∷ 0x06 ∷ 0x08 ∷ 0x00 ∷ 0x00 ∷ 0x00 ∷ 0x00 ∷ 0x00 ∷ 0x00 ∷ 0x06 ∷ 0x08 ∷ 0x00 ∷ 0x00 ∷ 0x00 ∷ 0x00 ∷ 0x00 ∷ 0x04 ∷ []

alone : List ℕ
alone = 0x05 ∷ 0x08 ∷ 0x00 ∷ 0x00 ∷ 0x00 ∷ 0x00 ∷ 0xfb ∷ 0xf5 ∷ []

-- ---- the rows

pub data Case : Type 0 where
  reading : List ℕ → ℕ → List ℕ → ℕ → ℕ → Case
  writing : List ℕ → List ℕ → List ℕ → List ℕ → List ℕ → List ℕ → ℕ → Case
  building : Request → ℕ → Case
  starting : Request → ℕ → Case
  following : Request → List ℕ → ℕ → Case
  series : Request → List Call → Case
  recorded : Request → List Call → Case

pub data Result : Type 0 where
  stops_read : Outcome Stop → Result
  bytes_written : Outcome ℕ → Result
  entries_built : Outcome TreeEntry → Result
  path : Outcome ℕ → Result
  replies : List Reply → Result

-- what the reference series has for an accepted request
unfoldable pub book_of : Request → Reading (List Stop) → List Call → List Reply
book_of r (refused x) calls = []
book_of r (good sequence) calls = book (round_of r sequence) (Path.shortest_paths (search_of r sequence)) (path_length sequence) 0 calls

unfoldable pub outcome : Case → Result
outcome (reading profile ingress list room bytes) = stops_read (read_include profile ingress list room bytes)
outcome (writing profile indexes marks nodes counts exrs room) = bytes_written (write_list profile indexes marks nodes counts exrs room)
outcome (building r room) = entries_built (build_tree r room)
outcome (starting r room) = path (first r room)
outcome (following r given room) = path (next r given room)
outcome (series r calls) = replies (run r [] calls)
outcome (recorded r calls) = replies (book_of r (sequence_of r) calls)

pub record Row : Type 0 where
  pub case : Case
  pub expected : Result

-- answer, place and the other numbers
unfoldable pub numbers : ℕ → List ℕ → Numbers
numbers n others = record { answer = n; others = others }

unfoldable pub through : ℕ → Stop
through d = stop d none []

unfoldable pub at : ℕ → ℕ → ℕ → TreeEntry
at level node cost = record { level = level; address = record { 0 = node }; reachable = true; cost = cost }

unfoldable pub cut : ℕ → ℕ → TreeEntry
cut level node = record { level = level; address = record { 0 = node }; reachable = false; cost = 0 }

-- a path of total 14, whose float has the bits 41600000, found in the first round
costs14 : List ℕ → Outcome ℕ
costs14 p = record { numbers = numbers 0 (0 ∷ 14 ∷ 0x41600000 ∷ 1 ∷ []); written = p }

-- W's tree with this tally and round
unfoldable pub tree_w : ℕ → ℕ → Outcome TreeEntry
tree_w hops round = record { numbers = numbers 0 (0 ∷ 5 ∷ hops ∷ round ∷ []); written = at 0 S 14 ∷ at 1 P 4 ∷ at 1 Q 11 ∷ at 2 T 2 ∷ at 2 U 3 ∷ [] }

-- a first and then nexts, each with five places to write to
unfoldable pub calls : ℕ → List Call
calls n = record { kind = first_call; buffer = 7 ∷ 7 ∷ 7 ∷ 7 ∷ 7 ∷ [] } ∷ nexts n
  where
    nexts : ℕ → List Call
    nexts zero = []
    nexts (suc n) = record { kind = next_call; buffer = 7 ∷ 7 ∷ 7 ∷ 7 ∷ 7 ∷ [] } ∷ nexts n

-- a path of total 14 in the buffer, the rest of which is untouched, found in a round; the end, and no path, with the buffer as it was
unfoldable pub gives_in : ℕ → List ℕ → Reply
gives_in round p = record { numbers = numbers 0 (0 ∷ 14 ∷ 0x41600000 ∷ round ∷ []); buffer = p ++ (7 ∷ []) }

unfoldable pub gives : List ℕ → Reply
gives p = gives_in 1 p

unfoldable pub ends : Reply
ends = record { numbers = numbers 2 (0 ∷ 0 ∷ 0 ∷ 0 ∷ []); buffer = 7 ∷ 7 ∷ 7 ∷ 7 ∷ 7 ∷ [] }

unfoldable pub none_there : Reply
none_there = record { numbers = numbers 1 (0 ∷ 0 ∷ 0 ∷ 0 ∷ []); buffer = 7 ∷ 7 ∷ 7 ∷ 7 ∷ 7 ∷ [] }

unfoldable pub SPUZ : List ℕ
SPUZ = S ∷ P ∷ U ∷ Z ∷ []

SPTZ : List ℕ
SPTZ = S ∷ P ∷ T ∷ Z ∷ []

unfoldable pub SQTZ : List ℕ
SQTZ = S ∷ Q ∷ T ∷ Z ∷ []

unfoldable pub SQUZ : List ℕ
SQUZ = S ∷ Q ∷ U ∷ Z ∷ []

three : Outcome Stop
three = record { numbers = numbers 0 (0 ∷ 3 ∷ 0 ∷ []); written = through 0 ∷ through 1 ∷ through 2 ∷ [] }

no_path_lem : Outcome ℕ
no_path_lem = record { numbers = numbers 1 (0 ∷ 0 ∷ 0 ∷ 0 ∷ []); written = [] }

unfoldable pub row : Case → Result → Row
row c x = record { case = c; expected = x }

pub starred : List Row
starred =
    -- the include list's tree, and the same of its longer form
    row (building (on_w to_end [] plain) 5) (entries_built (tree_w 8 1))
    ∷ row (reading profile_w 0 to_end 3 0) (stops_read three)
    ∷ row (reading profile_w 0 to_end5 3 0) (stops_read three)
    ∷ row (building (on_w to_end5 [] plain) 5) (entries_built (tree_w 8 1))
    -- the three paths, then the end
    ∷ row (series (on_w to_end [] plain) (calls 3)) (replies (gives SPUZ ∷ gives SQTZ ∷ gives SQUZ ∷ ends ∷ []))
    ∷ row (recorded (on_w to_end [] plain) (calls 3)) (replies (gives SPUZ ∷ gives SQTZ ∷ gives SQUZ ∷ ends ∷ []))
    -- after SPTZ, which is no shortest path
    ∷ row (following (on_w to_end [] plain) SPTZ 4) (path (costs14 SPUZ))
    -- bound 14.0 and 13.0
    ∷ row (series (on_w to_end [] (bounded 0x41600000)) (calls 3)) (replies (gives SPUZ ∷ gives SQTZ ∷ gives SQUZ ∷ ends ∷ []))
    ∷ row (starting (on_w to_end [] (bounded 0x41500000)) 4) (path no_path_lem)
    -- bandwidth just above 100.0
    ∷ row (series (on_w to_end [] above100) (calls 2)) (replies (gives SPUZ ∷ gives SQTZ ∷ ends ∷ []))
    -- Q excluded
    ∷ row (series (on_w to_end (without 0x0c) plain) (calls 1)) (replies (gives SPUZ ∷ ends ∷ []))
    -- U pinned before 64498
    ∷ row (series (on_w through_u [] plain) (calls 2)) (replies (gives SPUZ ∷ gives SQUZ ∷ ends ∷ []))
    -- the empty include list
    ∷ row (starting (on_w [] [] plain) 2) (path no_path_lem)
    ∷ row (building (on_w [] [] plain) 1) (entries_built (record { numbers = numbers 0 (0 ∷ 1 ∷ 0 ∷ 1 ∷ []); written = cut 0 S ∷ [] }))
    -- 64496 comes back
    ∷ row (reading profile_w 0 back 3 0) (stops_read (record { numbers = numbers 30 (8 ∷ 0 ∷ 0 ∷ []); written = [] }))
    -- one sequence, read in two ways and written in one; 64501 alone
    ∷ row (reading profile_ospf 0 short 3 0) (stops_read three)
    ∷ row (reading profile_ospf 0 whole 3 0) (stops_read three)
    ∷ row (writing profile_ospf (0 ∷ 1 ∷ 2 ∷ []) (0 ∷ 0 ∷ 0 ∷ []) (0 ∷ 0 ∷ 0 ∷ []) (0 ∷ 0 ∷ 0 ∷ []) [] 40) (bytes_written (record { numbers = numbers 0 (0 ∷ 40 ∷ []); written = whole }))
    ∷ row (reading profile_ospf 0 alone 3 0) (stops_read (record { numbers = numbers 29 (0 ∷ 0 ∷ 0 ∷ []); written = [] }))
    ∷ []

-- document 02's request [1] on W
pub desired : List Row
desired =
    -- the exclusion of Q desired: the first round has SPUZ
    row (series (on_w to_end (desired_without 0x0c) plain) (calls 1)) (replies (gives SPUZ ∷ ends ∷ []))
    -- those of P and Q desired: the first round has no path, so the second uses both, and the tally adds both rounds
    ∷ row (series (on_w to_end (desired_without 0x0b ++ desired_without 0x0c) plain) (calls 3)) (replies (gives_in 2 SPUZ ∷ gives_in 2 SQTZ ∷ gives_in 2 SQUZ ∷ ends ∷ []))
    ∷ row (recorded (on_w to_end (desired_without 0x0b ++ desired_without 0x0c) plain) (calls 3)) (replies (gives_in 2 SPUZ ∷ gives_in 2 SQTZ ∷ gives_in 2 SQUZ ∷ ends ∷ []))
    ∷ row (building (on_w to_end (desired_without 0x0b ++ desired_without 0x0c) plain) 5) (entries_built (tree_w 16 2))
    -- that of P demanded and that of Q desired: the second round keeps the exclusion of P
    ∷ row (series (on_w to_end (without 0x0b ++ desired_without 0x0c) plain) (calls 2)) (replies (gives_in 2 SQTZ ∷ gives_in 2 SQUZ ∷ ends ∷ []))
    -- both demanded: one round, no path
    ∷ row (series (on_w to_end (without 0x0b ++ without 0x0c) plain) (calls 0)) (replies (none_there ∷ []))
    ∷ row (building (on_w to_end (without 0x0b ++ without 0x0c) plain) 5)
    (entries_built (record { numbers = numbers 0 (0 ∷ 5 ∷ 8 ∷ 1 ∷ []); written = cut 0 S ∷ cut 1 P ∷ cut 1 Q ∷ at 2 T 2 ∷ at 2 U 3 ∷ [] }))
    -- that of Q demanded and that of U desired: the first round has only SPTZ, of total 15, which a bound of 14.0 rules out
    ∷ row (series (on_w to_end (without 0x0c ++ desired_without 0x16) (bounded 0x41600000)) (calls 1)) (replies (gives_in 2 SPUZ ∷ ends ∷ []))
    -- the exclusion of what W lacks desired: nothing changes but, where there is no admissible path, round and tally of the tree
    ∷ row (building (on_w to_end desired_without64511 plain) 5) (entries_built (tree_w 8 1))
    ∷ row (building (on_w to_end desired_without64511 (bounded 0x41500000)) 5) (entries_built (tree_w 16 2))
    ∷ row (starting (on_w to_end desired_without64511 (bounded 0x41500000)) 4) (path no_path_lem)
    ∷ []

-- ---- costs above 65,535: W with another cost for SP, its first hop record, and Q excluded, so that SPUZ costs 4 more and SPTZ 5

dearer : ℕ → List ℕ
dearer cost = take 84 profile_w ++ bytes_of 4 cost ++ drop 88 profile_w

on_dearer : ℕ → Limits → Request
on_dearer cost limits =
    record { profile = dearer cost; ingress = 0; source = S; destination = Z; include = to_end; exclude = without 0x0c; limits = limits }

-- SPUZ with this total and these bits of its float
spuz : ℕ → ℕ → Result
spuz total bits = path (record { numbers = numbers 0 (0 ∷ total ∷ bits ∷ 1 ∷ []); written = SPUZ })

pub wide : List Row
wide =
    -- 16,777,217 lies between two floats, 4B800000 (16,777,216), whose last bit is even, and 4B800001 (16,777,218)
    row (starting (on_dearer 16777213 plain) 4) (spuz 16777217 0x4b800000)
    -- a bound of its own float lies below it; the next float keeps it
    ∷ row (starting (on_dearer 16777213 (bounded 0x4b800000)) 4) (path no_path_lem)
    ∷ row (starting (on_dearer 16777213 (bounded 0x4b800001)) 4) (spuz 16777217 0x4b800000)
    -- the largest cost: 16,777,219 lies between 4B800001 and 4B800002 (16,777,220), whose last bit is even; as bounds the former doesn't keep it, its own float does
    ∷ row (starting (on_dearer 16777215 plain) 4) (spuz 16777219 0x4b800002)
    ∷ row (starting (on_dearer 16777215 (bounded 0x4b800001)) 4) (path no_path_lem)
    ∷ row (starting (on_dearer 16777215 (bounded 0x4b800002)) 4) (spuz 16777219 0x4b800002)
    -- SPUZ costs 16,777,216 and SPTZ one more: one float, but only SPUZ is listed
    ∷ row (starting (on_dearer 16777212 plain) 4) (spuz 16777216 0x4b800000)
    ∷ row (following (on_dearer 16777212 plain) SPUZ 4) (path (record { numbers = numbers 2 (0 ∷ 0 ∷ 0 ∷ 0 ∷ []); written = [] }))
    -- the tree has whole numbers
    ∷ row (building (on_dearer 16777215 plain) 5) (entries_built (record { numbers = numbers 0 (0 ∷ 5 ∷ 8 ∷ 1 ∷ []); written = at 0 S 16777219 ∷ at 1 P 4 ∷ cut 1 Q ∷ at 2 T 2 ∷ at 2 U 3 ∷ [] }))
    -- one more than the largest cost, in the first hop record behind three domain records
    ∷ row (starting (on_dearer 16777216 plain) 4) (path (record { numbers = numbers 17 (3 ∷ 0 ∷ 0 ∷ 0 ∷ []); written = [] }))
    ∷ []

-- ---- the width of an excluded prefix, whose bits behind it are ignored

around : ℕ → ℕ → List ℕ
around last bits = 0x01 ∷ 0x08 ∷ 0xc0 ∷ 0x00 ∷ 0x02 ∷ last ∷ bits ∷ 0x01 ∷ []

pub prefixes : List Row
prefixes =
    -- 192.0.2.128/24 takes every node of W, 192.0.2.128/25 none
    row (starting (on_w to_end (around 0x80 24) plain) 4) (path no_path_lem)
    ∷ row (starting (on_w to_end (around 0x80 25) plain) 4) (path (costs14 SPUZ))
    -- 192.0.2.10/31 takes P and leaves Q; /30 takes .8 to .11, so P again; /29 takes .8 to .15, so both
    ∷ row (starting (on_w to_end (around 0x0a 31) plain) 4) (path (costs14 SQTZ))
    ∷ row (starting (on_w to_end (around 0x0a 30) plain) 4) (path (costs14 SQTZ))
    ∷ row (starting (on_w to_end (around 0x0a 29) plain) 4) (path no_path_lem)
    -- of no bits at all: every node
    ∷ row (starting (on_w to_end (around 0x0a 0) plain) 4) (path no_path_lem)
    ∷ []

pub table : List Row
table = starred ++ desired ++ wide ++ prefixes

-- every row holds
pub worked_cases : map (λ (r : Row). outcome r.case) table ≡ map (λ (r : Row). r.expected) table
unfolding profile_w profile_ospf to_end to_end5 through_u back without desired_without desired_without64511 plain bounded above100 on_w short whole alone book_of outcome numbers through at cut costs14 tree_w calls gives_in gives ends none_there SPUZ SPTZ SQTZ SQUZ three no_path_lem row starred desired dearer on_dearer spuz wide around prefixes table count_from keep each among all_different sum least same below insert different over number bytes_of all_zero in_turn in_ranges misplaced nobodys Profile.header_wrong Profile.counts_wrong Profile.length_wrong Profile.header_verdict Profile.domain_at Profile.domains Profile.area_length_fits Profile.domain_malformed Profile.domain_misordered Profile.domain_verdict Profile.hop_at Profile.hops Profile.hop_malformed Profile.hop_misordered Profile.hop_verdict Profile.entry_nodes Profile.crowded Profile.crowded_verdict Profile.profile_verdict Subobject.known Subobject.length_fits Subobject.field_wrong Subobject.plain_verdict Subobject.carried_verdict Subobject.subobject_verdict Subobject.named_at checked_along places_along Subobject.form_verdict Subobject.subobjects Subobject.carried exrs_of of_system of_area enter name read_one read_all meaning written_from written stops whole_exrs unfit unwritable in_force some_desired excluded_domain excluded_node units in_range at_least at_most float_of request_verdict sequence_of all_exclusions search_in round_of search_of Path.legs Path.keeps_bound Path.exclusions_at Path.allowed Path.hops_from Path.suffixes Path.paths Path.admissible Path.cheapest Path.shortest_paths Tree.entries_at Tree.entry Tree.tree Tree.tally reading_of all_exrs read_include write_list build_tree first greater_than next book run of_bits to_bits of_fields odd size span climb of_int round is_nan Ieee.units count_trailing_zeros Profile.layout_in
worked_cases = refl
