-- AS numbers that are nobody's, 0 and 23456 (5BA0), in profiles and lists: document 02's request [6], worked out by hand from the bytes, as rows of the same kind as
-- those of `WorkedCases`, with one theorem for all of them. What is accepted shows by 34, which comes behind all other checks: no row has room for an answer.
use Rattle.std.specs.Prelude.{ℕ, ◌+◌, ◌≡◌, refl, List, [], ◌∷◌, ◌++◌, map, length, take, drop}
use Rattle.std.specs.Float.Ieee.{of_bits, to_bits, of_fields, odd, size, span, climb, of_int, round, is_nan}
use Rattle.std.specs.Float.Ieee as Ieee
use Rattle.std.specs.Int.Count.{count_trailing_zeros}
use Rattle.model.specs.Lists.{count_from, keep, all, any, each, among, all_different, sum, least, same, below, insert, different, over}
use Rattle.model.specs.Bytes.{number, bytes_of, all_zero}
use Rattle.model.specs.Verdict.{in_turn}
use Rattle.model.specs.Along.{checked_along, places_along}
use Rattle.model.specs.Reserved.{in_ranges, misplaced, nobodys}
use Rattle.model.specs.Profile as Profile
use Rattle.model.specs.Subobject as Subobject
use Rattle.model.specs.Sequence.{exrs_of, of_system, of_area, enter, name, read_one, read_all, meaning}
use Rattle.model.specs.WrittenList.{written_from, written, stops, whole_exrs, unfit, unwritable}
use Rattle.model.specs.Exclusion.{in_force, some_desired, excluded_domain, excluded_node}
use Rattle.model.specs.Floats.{units, in_range, at_least, at_most, float_of}
use Rattle.model.specs.Request.{request_verdict, sequence_of, all_exclusions, search_in}
use Rattle.model.specs.Path as Path
use Rattle.model.specs.Tree as Tree
use Rattle.model.specs.Rounds.{round_of, search_of}
use Rattle.model.specs.Calls.{reading_of, all_exrs, read_include, write_list, build_tree, first, greater_than, next}
use Rattle.model.specs.Series.{book, run}
use Rattle.model.proofs.WorkedCases.{profile_w, to_end, without, plain, on_w, Row, reading, writing, starting, stops_read, bytes_written, path, outcome, numbers, row}
use Rattle.model.proofs.WorkedExrs.{to64496, to64497, to64498, pin_u, area0, not_q, unread, unwritten}

-- ---- a profile of class 1 with three domains of kind 0 and no hops, given by the bytes of each AS; W with another AS in its first, second or third record

domain : List ℕ → List ℕ
domain asn = asn ++ (0x00 ∷ 0x00 ∷ 0x00 ∷ 0x00 ∷ 0x00 ∷ 0x00 ∷ 0x00 ∷ 0x00 ∷ 0x00 ∷ 0x00 ∷ 0x00 ∷ 0x00 ∷ 0x00 ∷ 0x00 ∷ 0x00 ∷ 0x00 ∷ [])

live : List ℕ → List ℕ → List ℕ → List ℕ
live a b c = (0x44 ∷ 0x53 ∷ 0x50 ∷ 0x00 ∷ 0x01 ∷ 0x01 ∷ 0x00 ∷ 0x03 ∷ 0x00 ∷ 0x00 ∷ 0x00 ∷ 0x00 ∷ []) ++ domain a ++ domain b ++ domain c

as_first : List ℕ → List ℕ
as_first asn = take 12 profile_w ++ asn ++ drop 16 profile_w

as_second : List ℕ → List ℕ
as_second asn = take 32 profile_w ++ asn ++ drop 36 profile_w

as_third : List ℕ → List ℕ
as_third asn = take 52 profile_w ++ asn ++ drop 56 profile_w

-- ---- numbers in four bytes: 0, 1, 2, 23455, 23456, 23457, 64496, 88,992 (its low half is 23456), 1,537,212,416 (its high half is)

zero4 : List ℕ
zero4 = 0x00 ∷ 0x00 ∷ 0x00 ∷ 0x00 ∷ []

one4 : List ℕ
one4 = 0x00 ∷ 0x00 ∷ 0x00 ∷ 0x01 ∷ []

two4 : List ℕ
two4 = 0x00 ∷ 0x00 ∷ 0x00 ∷ 0x02 ∷ []

below4 : List ℕ
below4 = 0x00 ∷ 0x00 ∷ 0x5b ∷ 0x9f ∷ []

trans4 : List ℕ
trans4 = 0x00 ∷ 0x00 ∷ 0x5b ∷ 0xa0 ∷ []

above4 : List ℕ
above4 = 0x00 ∷ 0x00 ∷ 0x5b ∷ 0xa1 ∷ []

reserved4 : List ℕ
reserved4 = 0x00 ∷ 0x00 ∷ 0xfb ∷ 0xf0 ∷ []

low4 : List ℕ
low4 = 0x00 ∷ 0x01 ∷ 0x5b ∷ 0xa0 ∷ []

high4 : List ℕ
high4 = 0x5b ∷ 0xa0 ∷ 0x00 ∷ 0x00 ∷ []

-- ---- subobjects with an AS: type 5 with its four bytes; type 32 with 0, 23455, 23456, 23457; EXRS with one of them

system : List ℕ → List ℕ
system asn = 0x05 ∷ 0x08 ∷ 0x00 ∷ 0x00 ∷ asn

zero2 : List ℕ
zero2 = 0x20 ∷ 0x04 ∷ 0x00 ∷ 0x00 ∷ []

below2 : List ℕ
below2 = 0x20 ∷ 0x04 ∷ 0x5b ∷ 0x9f ∷ []

trans2 : List ℕ
trans2 = 0x20 ∷ 0x04 ∷ 0x5b ∷ 0xa0 ∷ []

above2 : List ℕ
above2 = 0x20 ∷ 0x04 ∷ 0x5b ∷ 0xa1 ∷ []

short : List ℕ → List ℕ
short inner = 0x21 ∷ 0x08 ∷ 0x00 ∷ 0x00 ∷ inner

long : List ℕ → List ℕ
long inner = 0x21 ∷ 0x0c ∷ 0x00 ∷ 0x00 ∷ inner

-- ---- rows: a profile by itself, an include list on W, both lists of a request on W, EXRS for the writer's last domain, each with number and place

file : List ℕ → ℕ → ℕ → Row
file profile n place = row (reading profile 0 [] 0 0) (stops_read (unread n place))

listed : List ℕ → ℕ → ℕ → Row
listed list n place = row (reading profile_w 0 list 0 0) (stops_read (unread n place))

asked : List ℕ → List ℕ → ℕ → ℕ → Row
asked include exclude n place = row (starting (on_w include exclude plain) 0) (path (record { numbers = numbers n (place ∷ 0 ∷ 0 ∷ 0 ∷ []); written = [] }))

given : List ℕ → ℕ → Row
given exrs n = row (writing profile_w (0 ∷ 1 ∷ 2 ∷ []) (0 ∷ 0 ∷ 0 ∷ []) (0 ∷ 0 ∷ 0 ∷ []) (0 ∷ 0 ∷ length exrs ∷ []) exrs 0) (bytes_written (unwritten n))

-- ---- 14 in a profile

pub files : List Row
files =
    -- each number in each record of a profile of class 1, where the records ascend all the same
    file (live zero4 below4 above4) 14 0
    ∷ file (live trans4 above4 low4) 14 0
    ∷ file (live one4 trans4 above4) 14 1
    ∷ file (live one4 below4 trans4) 14 2
    -- their neighbours, and what has 23456 in one half
    ∷ file (live one4 below4 above4) 34 0
    ∷ file (live above4 low4 high4) 34 0
    -- before 15 of the same record, in class 1
    ∷ file (live one4 zero4 below4) 14 1
    ∷ file (live below4 above4 trans4) 14 2
    ∷ file (live below4 above4 one4) 15 2
    -- but behind an earlier record's 15 or 16
    ∷ file (live two4 one4 trans4) 15 1
    ∷ file (live reserved4 trans4 low4) 16 0
    -- the first of two; beside another reason of 14, an area kind of 3, in the same record and in the one behind it
    ∷ file (live zero4 zero4 trans4) 14 0
    ∷ file (take 16 (live zero4 below4 above4) ++ (0x03 ∷ []) ++ drop 17 (live zero4 below4 above4)) 14 0
    ∷ file (take 36 (live zero4 below4 above4) ++ (0x03 ∷ []) ++ drop 37 (live zero4 below4 above4)) 14 0
    -- in class 0 before 16, and before 15; a neighbour isn't
    ∷ file (as_first zero4) 14 0
    ∷ file (as_first trans4) 14 0
    ∷ file (as_first below4) 16 0
    ∷ file (as_first above4) 16 0
    ∷ file (as_first one4) 16 0
    ∷ file (as_second zero4) 14 1
    ∷ file (as_second trans4) 14 1
    ∷ file (as_second above4) 15 1
    ∷ file (as_third zero4) 14 2
    ∷ file (as_third trans4) 14 2
    ∷ file (as_third below4) 15 2
    ∷ []

-- ---- 26 in an include list

pub includes : List Row
includes =
    -- each number by either type; the neighbours are AS that W lacks
    listed (system zero4) 26 0
    ∷ listed (system trans4) 26 0
    ∷ listed zero2 26 0
    ∷ listed trans2 26 0
    ∷ listed (system one4) 28 0
    ∷ listed (system below4) 28 0
    ∷ listed (system above4) 28 0
    ∷ listed below2 28 0
    ∷ listed above2 28 0
    -- the whole number counts; the two bytes before it aren't looked at
    ∷ listed (system low4) 28 0
    ∷ listed (system high4) 28 0
    ∷ listed (0x05 ∷ 0x08 ∷ 0x5b ∷ 0xa0 ∷ 0x00 ∷ 0x00 ∷ 0xfb ∷ 0xf1 ∷ []) 34 0
    -- at its own offset, also with another one behind it, and followed at once by an area
    ∷ listed (to64497 ++ zero2) 26 4
    ∷ listed (to64497 ++ to64498 ++ system trans4) 26 8
    ∷ listed (to64497 ++ system zero4 ++ trans2) 26 4
    ∷ listed (to64497 ++ system zero4 ++ area0) 26 4
    -- before 28, 30, 32 and 42, wherever those stand
    ∷ listed (below2 ++ trans2) 26 4
    ∷ listed (trans2 ++ below2) 26 0
    ∷ listed (to64497 ++ to64496 ++ system zero4) 26 8
    ∷ listed (pin_u ++ pin_u ++ zero2) 26 16
    ∷ listed (trans2 ++ pin_u) 26 0
    ∷ listed (to64497 ++ not_q ++ trans2) 26 16
    -- behind another subobject's 26, and before it
    ∷ listed ((0x01 ∷ 0x08 ∷ 0xc0 ∷ 0x00 ∷ 0x02 ∷ 0x16 ∷ 0x1f ∷ 0x00 ∷ []) ++ trans2) 26 0
    ∷ listed (trans2 ++ (0x01 ∷ 0x08 ∷ 0xc0 ∷ 0x00 ∷ 0x02 ∷ 0x16 ∷ 0x1f ∷ 0x00 ∷ [])) 26 0
    -- in the same subobject behind 23, 27, 25 and 23
    ∷ listed (0x20 ∷ 0x04 ∷ 0x00 ∷ []) 23 0
    ∷ listed (0xa0 ∷ 0x04 ∷ 0x5b ∷ 0xa0 ∷ []) 27 0
    ∷ listed (0x85 ∷ 0x08 ∷ 0x00 ∷ 0x00 ∷ 0x00 ∷ 0x00 ∷ 0x00 ∷ 0x00 ∷ []) 27 0
    ∷ listed (0x20 ∷ 0x08 ∷ 0x00 ∷ 0x00 ∷ 0x00 ∷ 0x00 ∷ 0x00 ∷ 0x00 ∷ []) 25 0
    ∷ listed (0x05 ∷ 0x04 ∷ 0x00 ∷ 0x00 ∷ 0x00 ∷ 0x00 ∷ 0x5b ∷ 0xa0 ∷ []) 25 0
    ∷ listed (0x05 ∷ 0x08 ∷ 0x00 ∷ 0x00 ∷ 0x00 ∷ 0x00 ∷ 0x00 ∷ []) 23 0
    -- inside an EXRS, with X clear and set, at the inner offset; a neighbour isn't
    ∷ listed (short zero2 ++ to64497) 26 4
    ∷ listed (short trans2 ++ to64497) 26 4
    ∷ listed (long (system zero4) ++ to64497) 26 4
    ∷ listed (long (system trans4) ++ to64497) 26 4
    ∷ listed (to64497 ++ short (0xa0 ∷ 0x04 ∷ 0x5b ∷ 0xa0 ∷ []) ++ to64498) 26 8
    ∷ listed (long (above2 ++ zero2) ++ to64497) 26 8
    ∷ listed (short below2 ++ to64497) 34 0
    ∷ listed (long (system low4) ++ to64497) 34 0
    ∷ []

-- ---- 26 in an exclude list

pub excludes : List Row
excludes =
    -- each number by either type, with X clear and set, at its offset; a neighbour excludes what W lacks
    asked to_end (system zero4) 26 0
    ∷ asked to_end (system trans4) 26 0
    ∷ asked to_end zero2 26 0
    ∷ asked to_end trans2 26 0
    ∷ asked to_end (without 0x0c ++ (0x85 ∷ 0x08 ∷ 0x00 ∷ 0x00 ∷ 0x00 ∷ 0x00 ∷ 0x5b ∷ 0xa0 ∷ [])) 26 8
    ∷ asked to_end (below2 ++ (0xa0 ∷ 0x04 ∷ 0x00 ∷ 0x00 ∷ [])) 26 4
    ∷ asked to_end (below2 ++ above2 ++ system below4 ++ system above4 ++ system low4 ++ system high4) 34 0
    -- the include list's form goes first, its meaning last: 28 at its start
    ∷ asked (to64497 ++ trans2) zero2 26 4
    ∷ asked below2 (without 0x0c ++ zero2) 26 8
    ∷ asked below2 (without 0x0c) 28 0
    ∷ []

-- ---- 35 for EXRS that are to be written

pub writes : List Row
writes =
    -- EXRS with one aren't of right form
    given (short zero2) 35
    ∷ given (short trans2) 35
    ∷ given (long (system zero4)) 35
    ∷ given (long (system trans4)) 35
    ∷ given (short above2 ++ short trans2) 35
    ∷ given (short below2 ++ long (system low4)) 34
    ∷ []

pub table : List Row
table = files ++ includes ++ excludes ++ writes

-- every row holds
pub worked-nobodys : map (λ (r : Row). outcome r.case) table ≡ map (λ (r : Row). r.expected) table
unfolding domain live as_first as_second as_third zero4 one4 two4 below4 trans4 above4 reserved4 low4 high4 system zero2 below2 trans2 above2 short long file listed asked given files includes excludes writes table not_q to64496 to64497 to64498 pin_u area0 unread unwritten profile_w to_end without plain on_w outcome numbers row count_from keep each among all_different sum least same below insert different over number bytes_of all_zero in_turn in_ranges misplaced nobodys Profile.header_wrong Profile.counts_wrong Profile.length_wrong Profile.header_verdict Profile.domain_at Profile.domains Profile.area_length_fits Profile.domain_malformed Profile.domain_misordered Profile.domain_verdict Profile.hop_at Profile.hops Profile.hop_malformed Profile.hop_misordered Profile.hop_verdict Profile.entry_nodes Profile.crowded Profile.crowded_verdict Profile.profile_verdict Subobject.known Subobject.length_fits Subobject.field_wrong Subobject.plain_verdict Subobject.carried_verdict Subobject.subobject_verdict Subobject.named_at checked_along places_along Subobject.form_verdict Subobject.subobjects Subobject.carried exrs_of of_system of_area enter name read_one read_all meaning written_from written stops whole_exrs unfit unwritable in_force some_desired excluded_domain excluded_node units in_range at_least at_most float_of request_verdict sequence_of all_exclusions search_in round_of search_of Path.legs Path.keeps_bound Path.exclusions_at Path.allowed Path.hops_from Path.suffixes Path.paths Path.admissible Path.cheapest Path.shortest_paths Tree.entries_at Tree.entry Tree.tree Tree.tally reading_of all_exrs read_include write_list build_tree first greater_than next book run of_bits to_bits of_fields odd size span climb of_int round is_nan Ieee.units count_trailing_zeros Profile.layout_in
worked-nobodys = refl
