-- EXRS on profile W and on the second profile of document 01's examples: document 02's request [5], worked out by hand from the bytes, as rows of the same kind as
-- those of `WorkedCases`, with one theorem for all of them.
use Rattle.std.specs.Prelude.{ℕ, ◌+◌, ◌-◌, ◌≡◌, refl, List, [], ◌∷◌, ◌++◌, map}
use Rattle.std.proofs.Math.Option.{none, some}
use Rattle.std.specs.Float.Ieee.{of_bits, to_bits, of_fields, odd, size, span, climb, of_int, round, is_nan}
use Rattle.std.specs.Float.Ieee as Ieee
use Rattle.std.specs.Int.Count.{count_trailing_zeros}
use Rattle.model.specs.Lists.{count_from, keep, all, any, each, among, all_different, sum, least, same, below, insert, different, over}
use Rattle.model.specs.Bytes.{number, bytes_of, all_zero}
use Rattle.model.specs.Verdict.{in_turn}
use Rattle.model.specs.Along.{checked_along, places_along}
use Rattle.model.specs.Reserved.{in_ranges, misplaced, nobodys}
use Rattle.model.specs.Profile as Profile
use Rattle.model.specs.Subobject as Subobject
use Rattle.model.specs.Sequence.{Stop, stop, exrs_of, of_system, of_area, enter, name, read_one, read_all, meaning}
use Rattle.model.specs.WrittenList.{written_from, written, stops, whole_exrs, unfit, unwritable}
use Rattle.model.specs.Exclusion.{in_force, some_desired, excluded_domain, excluded_node}
use Rattle.model.specs.Floats.{units, in_range, at_least, at_most, float_of}
use Rattle.model.specs.Request.{request_verdict, sequence_of, all_exclusions, search_in}
use Rattle.model.specs.Path as Path
use Rattle.model.specs.Tree as Tree
use Rattle.model.specs.Rounds.{round_of, search_of}
use Rattle.model.specs.Calls.{Outcome, reading_of, all_exrs, read_include, write_list, build_tree, first, greater_than, next}
use Rattle.model.specs.Series.{book, run}
use Rattle.model.proofs.WorkedCases.{profile_w, profile_ospf, S, P, Q, T, U, to_end, without, desired_without, plain, bounded, on_w, Row, reading, writing, building, starting, series, stops_read, bytes_written, entries_built, path, replies, outcome, numbers, through, at, cut, tree_w, calls, gives_in, gives, ends, none_there, SPUZ, SQTZ, SQUZ, row, book_of}

-- ---- EXRS and other subobjects

-- an EXRS with Q, with X clear and set; with P; with T; with both ends; with P and Q desired
unfoldable pub not_q : List ℕ
not_q = 0x21 ∷ 0x0c ∷ 0x00 ∷ 0x00 ∷ 0x01 ∷ 0x08 ∷ 0xc0 ∷ 0x00 ∷ 0x02 ∷ 0x0c ∷ 0x20 ∷ 0x01 ∷ []

rather_not_q : List ℕ
rather_not_q = 0x21 ∷ 0x0c ∷ 0x00 ∷ 0x00 ∷ 0x81 ∷ 0x08 ∷ 0xc0 ∷ 0x00 ∷ 0x02 ∷ 0x0c ∷ 0x20 ∷ 0x01 ∷ []

not_p : List ℕ
not_p = 0x21 ∷ 0x0c ∷ 0x00 ∷ 0x00 ∷ 0x01 ∷ 0x08 ∷ 0xc0 ∷ 0x00 ∷ 0x02 ∷ 0x0b ∷ 0x20 ∷ 0x01 ∷ []

not_t : List ℕ
not_t = 0x21 ∷ 0x0c ∷ 0x00 ∷ 0x00 ∷ 0x01 ∷ 0x08 ∷ 0xc0 ∷ 0x00 ∷ 0x02 ∷ 0x15 ∷ 0x20 ∷ 0x01 ∷ []

not_ends : List ℕ
not_ends = 0x21 ∷ 0x14 ∷ 0x00 ∷ 0x00 ∷ 0x01 ∷ 0x08 ∷ 0xc0 ∷ 0x00 ∷ 0x02 ∷ 0x01 ∷ 0x20 ∷ 0x01 ∷ 0x01 ∷ 0x08 ∷ 0xc0 ∷ 0x00 ∷ 0x02 ∷ 0x63 ∷ 0x20 ∷ 0x01 ∷ []

rather_neither : List ℕ
rather_neither = 0x21 ∷ 0x14 ∷ 0x00 ∷ 0x00 ∷ 0x81 ∷ 0x08 ∷ 0xc0 ∷ 0x00 ∷ 0x02 ∷ 0x0b ∷ 0x20 ∷ 0x01 ∷ 0x81 ∷ 0x08 ∷ 0xc0 ∷ 0x00 ∷ 0x02 ∷ 0x0c ∷ 0x20 ∷ 0x01 ∷ []

-- with AS 64498, with X clear and set; its reserved bytes aren't looked at
not64498 : List ℕ
not64498 = 0x21 ∷ 0x08 ∷ 0x00 ∷ 0x00 ∷ 0x20 ∷ 0x04 ∷ 0xfb ∷ 0xf2 ∷ []

rather_not64498 : List ℕ
rather_not64498 = 0x21 ∷ 0x08 ∷ 0xff ∷ 0xff ∷ 0xa0 ∷ 0x04 ∷ 0xfb ∷ 0xf2 ∷ []

-- with AS 64511, which W lacks, desired
rather_not64511 : List ℕ
rather_not64511 = 0x21 ∷ 0x08 ∷ 0x00 ∷ 0x00 ∷ 0xa0 ∷ 0x04 ∷ 0xfb ∷ 0xff ∷ []

-- the domains of W, one by one
unfoldable pub to64496 : List ℕ
to64496 = 0x20 ∷ 0x04 ∷ 0xfb ∷ 0xf0 ∷ []

unfoldable pub to64497 : List ℕ
to64497 = 0x20 ∷ 0x04 ∷ 0xfb ∷ 0xf1 ∷ []

unfoldable pub to64498 : List ℕ
to64498 = 0x20 ∷ 0x04 ∷ 0xfb ∷ 0xf2 ∷ []

-- the entry constraint U
unfoldable pub pin_u : List ℕ
pin_u = 0x01 ∷ 0x08 ∷ 0xc0 ∷ 0x00 ∷ 0x02 ∷ 0x16 ∷ 0x20 ∷ 0x00 ∷ []

-- on the second profile: AS 64500 and 64501, the areas 0 and 4
as64500 : List ℕ
as64500 = 0x05 ∷ 0x08 ∷ 0x00 ∷ 0x00 ∷ 0x00 ∷ 0x00 ∷ 0xfb ∷ 0xf4 ∷ []

as64501 : List ℕ
as64501 = 0x05 ∷ 0x08 ∷ 0x00 ∷ 0x00 ∷ 0x00 ∷ 0x00 ∷ 0xfb ∷ 0xf5 ∷ []

unfoldable pub area0 : List ℕ
area0 = 0x06 ∷ 0x08 ∷ 0x00 ∷ 0x00 ∷ 0x00 ∷ 0x00 ∷ 0x00 ∷ 0x00 ∷ []

area4 : List ℕ
area4 = 0x06 ∷ 0x08 ∷ 0x00 ∷ 0x00 ∷ 0x00 ∷ 0x00 ∷ 0x00 ∷ 0x04 ∷ []

-- an EXRS with the OSPF area 4
not_area4 : List ℕ
not_area4 = 0x21 ∷ 0x0c ∷ 0x00 ∷ 0x00 ∷ 0x06 ∷ 0x08 ∷ 0x00 ∷ 0x00 ∷ 0x00 ∷ 0x00 ∷ 0x00 ∷ 0x04 ∷ []

unfoldable pub unread : ℕ → ℕ → Outcome Stop
unread n place = record { numbers = numbers n (place ∷ 0 ∷ 0 ∷ []); written = [] }

unfoldable pub unwritten : ℕ → Outcome ℕ
unwritten n = record { numbers = numbers n (0 ∷ 0 ∷ []); written = [] }

-- ---- what paths keep to: S to Z on W, bandwidth 100.0

pub kept : List Row
kept =
    -- Q isn't to be the entry node of 64497; as one of 64498 it isn't met
    row (series (on_w (not_q ++ to64497 ++ to64498) [] plain) (calls 1)) (replies (gives SPUZ ∷ ends ∷ []))
    ∷ row (series (on_w (to64497 ++ not_q ++ to64498) [] plain) (calls 3)) (replies (gives SPUZ ∷ gives SQTZ ∷ gives SQUZ ∷ ends ∷ []))
    -- nor T that of 64498; at 64497 it isn't met
    ∷ row (series (on_w (to64497 ++ not_t ++ to64498) [] plain) (calls 2)) (replies (gives SPUZ ∷ gives SQUZ ∷ ends ∷ []))
    ∷ row (series (on_w (not_t ++ to64497 ++ to64498) [] plain) (calls 3)) (replies (gives SPUZ ∷ gives SQTZ ∷ gives SQUZ ∷ ends ∷ []))
    -- source and destination are no entry nodes
    ∷ row (series (on_w (not_ends ++ to64497 ++ not_ends ++ to64498) [] plain) (calls 3)) (replies (gives SPUZ ∷ gives SQTZ ∷ gives SQUZ ∷ ends ∷ []))
    -- 64498 excluded where it is entered: no way, and none from its own entries; where 64497 is entered nothing is taken
    ∷ row (building (on_w (to64497 ++ not64498 ++ to64498) [] plain) 5) (entries_built (record { numbers = numbers 0 (0 ∷ 5 ∷ 8 ∷ 1 ∷ []); written = cut 0 S ∷ cut 1 P ∷ cut 1 Q ∷ cut 2 T ∷ cut 2 U ∷ [] }))
    ∷ row (series (on_w (not64498 ++ to64497 ++ to64498) [] plain) (calls 3)) (replies (gives SPUZ ∷ gives SQTZ ∷ gives SQUZ ∷ ends ∷ []))
    -- the same desired: the second round uses it
    ∷ row (building (on_w (to64497 ++ rather_not64498 ++ to64498) [] plain) 5) (entries_built (tree_w 16 2))
    -- several add up, in one EXRS or in two: P and Q desired; P demanded and Q desired; both demanded
    ∷ row (series (on_w (rather_neither ++ to64497 ++ to64498) [] plain) (calls 3)) (replies (gives_in 2 SPUZ ∷ gives_in 2 SQTZ ∷ gives_in 2 SQUZ ∷ ends ∷ []))
    ∷ row (series (on_w (not_p ++ rather_not_q ++ to64497 ++ to64498) [] plain) (calls 2)) (replies (gives_in 2 SQTZ ∷ gives_in 2 SQUZ ∷ ends ∷ []))
    ∷ row (series (on_w (not_p ++ not_q ++ to64497 ++ to64498) [] plain) (calls 0)) (replies (none_there ∷ []))
    ∷ row (building (on_w (not_p ++ not_q ++ to64497 ++ to64498) [] plain) 5) (entries_built (record { numbers = numbers 0 (0 ∷ 5 ∷ 8 ∷ 1 ∷ []); written = cut 0 S ∷ cut 1 P ∷ cut 1 Q ∷ at 2 T 2 ∷ at 2 U 3 ∷ [] }))
    -- an X inside an EXRS opens the second round for the exclude list too, and one there for the EXRS, whether it takes anything or not
    ∷ row (series (on_w (rather_not_q ++ to64497 ++ to64498) (desired_without 0x0b) plain) (calls 3)) (replies (gives_in 2 SPUZ ∷ gives_in 2 SQTZ ∷ gives_in 2 SQUZ ∷ ends ∷ []))
    ∷ row (series (on_w (to64497 ++ rather_not64511 ++ to64498) (without 0x0c) (bounded 0x41500000)) (calls 0)) (replies (none_there ∷ []))
    ∷ row (building (on_w (to64497 ++ rather_not64511 ++ to64498) [] (bounded 0x41500000)) 5) (entries_built (tree_w 16 2))
    ∷ row (building (on_w (to64497 ++ rather_not64511 ++ to64498) [] plain) 5) (entries_built (tree_w 8 1))
    -- it waits over the domain one is in, beside an entry constraint in either order
    ∷ row (series (on_w (not_q ++ to64496 ++ to64497 ++ to64498) [] plain) (calls 1)) (replies (gives SPUZ ∷ ends ∷ []))
    ∷ row (series (on_w (to64497 ++ not_t ++ pin_u ++ to64498) [] plain) (calls 2)) (replies (gives SPUZ ∷ gives SQUZ ∷ ends ∷ []))
    ∷ row (series (on_w (to64497 ++ pin_u ++ not_t ++ to64498) [] plain) (calls 2)) (replies (gives SPUZ ∷ gives SQUZ ∷ ends ∷ []))
    -- in an exclude list type 33 isn't known
    ∷ row (starting (on_w to_end not_q plain) 4) (path (record { numbers = numbers 24 (0 ∷ 0 ∷ 0 ∷ 0 ∷ []); written = [] }))
    ∷ []

-- ---- what is read, refused and written

pub told : List Row
told =
    -- a reading gives each domain its own, byte for byte, if the capacity is there
    row (reading profile_w 0 (not_q ++ rather_not64498 ++ to64497 ++ pin_u ++ not_t ++ to64498) 3 32) (stops_read (record { numbers = numbers 0 (0 ∷ 3 ∷ 32 ∷ []); written = through 0 ∷ stop 1 none (not_q ++ rather_not64498) ∷ stop 2 (some U) not_t ∷ [] }))
    ∷ row (reading profile_w 0 (not_q ++ rather_not64498 ++ to64497 ++ pin_u ++ not_t ++ to64498) 3 31) (stops_read (unread 34 0))
    -- with no new domain after it: 42, or 32 where an entry constraint stands first
    ∷ row (reading profile_w 0 (to64497 ++ not_q) 2 12) (stops_read (unread 42 4))
    ∷ row (reading profile_w 0 (to64497 ++ not_q ++ to64497) 2 12) (stops_read (unread 42 4))
    ∷ row (reading profile_w 0 (to64497 ++ not_q ++ pin_u) 2 12) (stops_read (unread 42 4))
    ∷ row (reading profile_w 0 (to64497 ++ pin_u ++ not_q) 2 12) (stops_read (unread 32 4))
    -- a second entry constraint is told where it stands
    ∷ row (reading profile_w 0 (not_q ++ pin_u ++ not_q ++ pin_u) 2 24) (stops_read (unread 32 32))
    -- AS, EXRS, area: the AS isn't followed at once, so it names its only domain, where it has one
    ∷ row (reading profile_ospf 0 (as64501 ++ not_area4 ++ area4) 3 12) (stops_read (unread 29 0))
    ∷ row (reading profile_ospf 0 (as64500 ++ not_area4 ++ area0) 3 12) (stops_read (unread 42 8))
    ∷ row (reading profile_ospf 0 (not_area4 ++ as64501 ++ area4) 3 12) (stops_read (record { numbers = numbers 0 (0 ∷ 2 ∷ 12 ∷ []); written = through 0 ∷ stop 2 none not_area4 ∷ [] }))
    -- its own form, in this order: 23, 27, 25, 23, 26
    ∷ row (reading profile_w 0 (0x20 ∷ 0x04 ∷ 0xfb ∷ 0xf1 ∷ 0x21 ∷ 0x04 ∷ 0x00 ∷ []) 3 12) (stops_read (unread 23 4))
    ∷ row (reading profile_w 0 (0xa1 ∷ 0x03 ∷ 0x00 ∷ 0x00 ∷ []) 3 12) (stops_read (unread 27 0))
    ∷ row (reading profile_w 0 (0x21 ∷ 0x03 ∷ 0x00 ∷ 0x00 ∷ []) 3 12) (stops_read (unread 25 0))
    ∷ row (reading profile_w 0 (0x20 ∷ 0x04 ∷ 0xfb ∷ 0xf1 ∷ 0x21 ∷ 0x0c ∷ 0x00 ∷ 0x00 ∷ 0x01 ∷ 0x08 ∷ 0xc0 ∷ 0x00 ∷ []) 3 12) (stops_read (unread 23 4))
    ∷ row (reading profile_w 0 (0x20 ∷ 0x04 ∷ 0xfb ∷ 0xf1 ∷ 0x21 ∷ 0x04 ∷ 0x00 ∷ 0x00 ∷ 0x20 ∷ 0x04 ∷ 0xfb ∷ 0xf2 ∷ []) 3 12) (stops_read (unread 26 4))
    -- inside, at the inner offset and up to its own end: 23 with under 4 left, 24 for an unknown type and for an EXRS, an area's length 26, 25, 23 past that end, 26
    ∷ row (reading profile_w 0 (0x20 ∷ 0x04 ∷ 0xfb ∷ 0xf1 ∷ 0x21 ∷ 0x0a ∷ 0x00 ∷ 0x00 ∷ 0x20 ∷ 0x04 ∷ 0xfb ∷ 0xf2 ∷ 0x20 ∷ 0x04 ∷ 0xfb ∷ 0xf2 ∷ []) 3 12) (stops_read (unread 23 12))
    ∷ row (reading profile_w 0 (0x20 ∷ 0x04 ∷ 0xfb ∷ 0xf1 ∷ 0x21 ∷ 0x08 ∷ 0x00 ∷ 0x00 ∷ 0x02 ∷ 0x04 ∷ 0x00 ∷ 0x00 ∷ 0x20 ∷ 0x04 ∷ 0xfb ∷ 0xf2 ∷ []) 3 12) (stops_read (unread 24 8))
    ∷ row (reading profile_w 0 (0x20 ∷ 0x04 ∷ 0xfb ∷ 0xf1 ∷ 0x21 ∷ 0x08 ∷ 0x00 ∷ 0x00 ∷ 0x21 ∷ 0x04 ∷ 0x00 ∷ 0x00 ∷ 0x20 ∷ 0x04 ∷ 0xfb ∷ 0xf2 ∷ []) 3 12) (stops_read (unread 24 8))
    ∷ row (reading profile_w 0 (0x20 ∷ 0x04 ∷ 0xfb ∷ 0xf1 ∷ 0x21 ∷ 0x08 ∷ 0x00 ∷ 0x00 ∷ 0x07 ∷ 0x03 ∷ 0x0e ∷ 0x00 ∷ 0x20 ∷ 0x04 ∷ 0xfb ∷ 0xf2 ∷ []) 3 12) (stops_read (unread 26 8))
    ∷ row (reading profile_w 0 (0x20 ∷ 0x04 ∷ 0xfb ∷ 0xf1 ∷ 0x21 ∷ 0x08 ∷ 0x00 ∷ 0x00 ∷ 0x20 ∷ 0x08 ∷ 0xfb ∷ 0xf2 ∷ 0x20 ∷ 0x04 ∷ 0xfb ∷ 0xf2 ∷ []) 3 12) (stops_read (unread 25 8))
    ∷ row (reading profile_w 0 (0x20 ∷ 0x04 ∷ 0xfb ∷ 0xf1 ∷ 0x21 ∷ 0x08 ∷ 0x00 ∷ 0x00 ∷ 0x01 ∷ 0x08 ∷ 0xc0 ∷ 0x00 ∷ 0x02 ∷ 0x0c ∷ 0x20 ∷ 0x01 ∷ 0x20 ∷ 0x04 ∷ 0xfb ∷ 0xf2 ∷ []) 3 12) (stops_read (unread 23 8))
    ∷ row (reading profile_w 0 (0x20 ∷ 0x04 ∷ 0xfb ∷ 0xf1 ∷ 0x21 ∷ 0x10 ∷ 0x00 ∷ 0x00 ∷ 0xa0 ∷ 0x04 ∷ 0xfb ∷ 0xf2 ∷ 0x01 ∷ 0x08 ∷ 0xc0 ∷ 0x00 ∷ 0x02 ∷ 0x0c ∷ 0x20 ∷ 0x00 ∷ []) 3 12) (stops_read (unread 26 12))
    -- written right behind the entry constraint, byte for byte
    ∷ row (writing profile_w (0 ∷ 1 ∷ 2 ∷ []) (0 ∷ 0 ∷ 1 ∷ []) (0 ∷ 0 ∷ U ∷ []) (0 ∷ 0 ∷ 20 ∷ []) (rather_not64498 ++ not_t) 52) (bytes_written (record { numbers = numbers 0 (0 ∷ 52 ∷ []); written = 0x05 ∷ 0x08 ∷ 0x00 ∷ 0x00 ∷ 0x00 ∷ 0x00 ∷ 0xfb ∷ 0xf0 ∷ 0x05 ∷ 0x08 ∷ 0x00 ∷ 0x00 ∷ 0x00 ∷ 0x00 ∷ 0xfb ∷ 0xf1 ∷ 0x01 ∷ 0x08 ∷ 0xc0 ∷ 0x00 ∷ 0x02 ∷ 0x16 ∷ 0x20 ∷ 0x00 ∷ 0x21 ∷ 0x08 ∷ 0xff ∷ 0xff ∷ 0xa0 ∷ 0x04 ∷ 0xfb ∷ 0xf2 ∷ 0x21 ∷ 0x0c ∷ 0x00 ∷ 0x00 ∷ 0x01 ∷ 0x08 ∷ 0xc0 ∷ 0x00 ∷ 0x02 ∷ 0x15 ∷ 0x20 ∷ 0x01 ∷ 0x05 ∷ 0x08 ∷ 0x00 ∷ 0x00 ∷ 0x00 ∷ 0x00 ∷ 0xfb ∷ 0xf2 ∷ [] }))
    ∷ row (writing profile_w (0 ∷ 1 ∷ 2 ∷ []) (0 ∷ 0 ∷ 1 ∷ []) (0 ∷ 0 ∷ U ∷ []) (0 ∷ 0 ∷ 20 ∷ []) (rather_not64498 ++ not_t) 51) (bytes_written (unwritten 34))
    -- 35: on the first domain, cut in two, counts that don't come to the bytes, not an EXRS, with nothing inside
    ∷ row (writing profile_w (0 ∷ 1 ∷ 2 ∷ []) (0 ∷ 0 ∷ 0 ∷ []) (0 ∷ 0 ∷ 0 ∷ []) (12 ∷ 0 ∷ 0 ∷ []) (not_t) 99) (bytes_written (unwritten 35))
    ∷ row (writing profile_w (0 ∷ 1 ∷ 2 ∷ []) (0 ∷ 0 ∷ 0 ∷ []) (0 ∷ 0 ∷ 0 ∷ []) (0 ∷ 6 ∷ 6 ∷ []) (not_t) 99) (bytes_written (unwritten 35))
    ∷ row (writing profile_w (0 ∷ 1 ∷ 2 ∷ []) (0 ∷ 0 ∷ 0 ∷ []) (0 ∷ 0 ∷ 0 ∷ []) (0 ∷ 0 ∷ 11 ∷ []) (not_t) 99) (bytes_written (unwritten 35))
    ∷ row (writing profile_w (0 ∷ 1 ∷ 2 ∷ []) (0 ∷ 0 ∷ 0 ∷ []) (0 ∷ 0 ∷ 0 ∷ []) (0 ∷ 0 ∷ 13 ∷ []) (not_t) 99) (bytes_written (unwritten 35))
    ∷ row (writing profile_w (0 ∷ 1 ∷ 2 ∷ []) (0 ∷ 0 ∷ 0 ∷ []) (0 ∷ 0 ∷ 0 ∷ []) (0 ∷ 12 ∷ []) (not_t) 99) (bytes_written (unwritten 35))
    ∷ row (writing profile_w (0 ∷ 1 ∷ 2 ∷ []) (0 ∷ 0 ∷ 0 ∷ []) (0 ∷ 0 ∷ 0 ∷ []) (0 ∷ 0 ∷ 4 ∷ []) (to64498) 99) (bytes_written (unwritten 35))
    ∷ row (writing profile_w (0 ∷ 1 ∷ 2 ∷ []) (0 ∷ 0 ∷ 0 ∷ []) (0 ∷ 0 ∷ 0 ∷ []) (0 ∷ 0 ∷ 4 ∷ []) (0x21 ∷ 0x04 ∷ 0x00 ∷ 0x00 ∷ []) 99) (bytes_written (unwritten 35))
    ∷ []

pub table : List Row
table = kept ++ told

-- every row holds
pub worked-exrs : map (λ (r : Row). outcome r.case) table ≡ map (λ (r : Row). r.expected) table
unfolding not_q rather_not_q not_p not_t not_ends rather_neither not64498 rather_not64498 rather_not64511 to64496 to64497 to64498 pin_u as64500 as64501 area0 area4 not_area4 kept told table unread unwritten profile_w profile_ospf to_end without desired_without plain bounded on_w book_of outcome numbers through at cut tree_w calls gives_in gives ends none_there SPUZ SQTZ SQUZ row count_from keep each among all_different sum least same below insert different over number bytes_of all_zero in_turn in_ranges misplaced nobodys Profile.header_wrong Profile.counts_wrong Profile.length_wrong Profile.header_verdict Profile.domain_at Profile.domains Profile.area_length_fits Profile.domain_malformed Profile.domain_misordered Profile.domain_verdict Profile.hop_at Profile.hops Profile.hop_malformed Profile.hop_misordered Profile.hop_verdict Profile.entry_nodes Profile.crowded Profile.crowded_verdict Profile.profile_verdict Subobject.known Subobject.length_fits Subobject.field_wrong Subobject.plain_verdict Subobject.carried_verdict Subobject.subobject_verdict Subobject.named_at checked_along places_along Subobject.form_verdict Subobject.subobjects Subobject.carried exrs_of of_system of_area enter name read_one read_all meaning written_from written stops whole_exrs unfit unwritable in_force some_desired excluded_domain excluded_node units in_range at_least at_most float_of request_verdict sequence_of all_exclusions search_in round_of search_of Path.legs Path.keeps_bound Path.exclusions_at Path.allowed Path.hops_from Path.suffixes Path.paths Path.admissible Path.cheapest Path.shortest_paths Tree.entries_at Tree.entry Tree.tree Tree.tally reading_of all_exrs read_include write_list build_tree first greater_than next book run of_bits to_bits of_fields odd size span climb of_int round is_nan Ieee.units count_trailing_zeros Profile.layout_in
worked-exrs = refl
