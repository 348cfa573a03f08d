-- PCEP messages with bytes put down by hand from the layouts of RFC 5440 and RFC 5521, and what the calls make of them: one table of rows (call, inputs,
-- the whole outcome), on profile W of document 01's examples where a call takes a profile, and one theorem, that each row holds, computed from the bytes up.
use Rattle.std.specs.Prelude.{ℕ, ◌≡◌, refl, Bool, true, false, List, [], ◌∷◌, ◌++◌, map, length}
use Rattle.std.specs.Float.Ieee.{of_bits, to_bits, of_fields, odd, size, span, climb, of_int, round, is_nan}
use Rattle.std.specs.Float.Ieee as Ieee
use Rattle.std.specs.Int.Count.{count_trailing_zeros}
use Rattle.model.specs.declared.TreeEntry.{TreeEntry}
use Rattle.model.specs.Lists.{count_from, keep, all, any, each, among, all_different, sum, least, same, below, insert, different}
use Rattle.model.specs.Bytes.{number, bytes_of, all_zero}
use Rattle.model.specs.Verdict.{in_turn}
use Rattle.model.specs.Reserved.{in_ranges, misplaced, nobodys}
use Rattle.model.specs.Profile as Profile
use Rattle.model.specs.Subobject as Subobject
use Rattle.model.specs.Sequence.{exrs_of, of_system, of_area, enter, name, read_one, read_all, meaning}
use Rattle.model.specs.Exclusion.{in_force, some_desired, excluded_domain, excluded_node}
use Rattle.model.specs.Floats.{units, in_range, at_least, at_most, float_of}
use Rattle.model.specs.Request.{request_verdict, sequence_of, all_exclusions, search_in}
use Rattle.model.specs.Path as Path
use Rattle.model.specs.Tree as Tree
use Rattle.model.specs.Rounds.{round_of, search_of}
use Rattle.model.specs.Answers.{Numbers}
use Rattle.model.specs.Calls.{Outcome, build_tree, first, greater_than, next}
use Rattle.model.proofs.WorkedCases.{profile_w}
use Rattle.model.specs.Along.{checked_along, places_along, first_of}
use Rattle.pcep_model.specs.Objects.{known_object, own_length, object_verdict, first_object, message_verdict}
use Rattle.pcep_model.specs.Metrics.{Metric, metrics, wrong_metric, bound_metric}
use Rattle.pcep_model.specs.Pcreq.{pcreq_verdict, read_pcreq, pcreq_tree, pcreq_first, pcreq_next}
use Rattle.pcep_model.specs.Pcrep.{Reading, Reply, step_verdict, addresses_in, pcrep_verdict, read_pcrep, written_pcrep, write_verdict, write_pcrep, metrics_of, apart}

-- ---- common headers, with the length of the whole message

pcreq : ℕ → List ℕ → List ℕ
pcreq whole objects = 0x20 ∷ 0x03 ∷ 0x00 ∷ whole ∷ objects

pcrep : ℕ → List ℕ → List ℕ
pcrep whole objects = 0x20 ∷ 0x04 ∷ 0x00 ∷ whole ∷ objects

-- ---- objects

-- O and Pri 3, and beside them a flag that RFC 5440 doesn't assign; request-ID 7
rp : List ℕ
rp = 0x02 ∷ 0x12 ∷ 0x00 ∷ 0x0c ∷ 0x00 ∷ 0x00 ∷ 0x00 ∷ 0x63 ∷ 0x00 ∷ 0x00 ∷ 0x00 ∷ 0x07 ∷ []

-- the same without that flag
clean_rp : List ℕ
clean_rp = 0x02 ∷ 0x12 ∷ 0x00 ∷ 0x0c ∷ 0x00 ∷ 0x00 ∷ 0x00 ∷ 0x23 ∷ 0x00 ∷ 0x00 ∷ 0x00 ∷ 0x07 ∷ []

-- the same with a TLV of type 28 behind it
rp_with_tlv : List ℕ
rp_with_tlv = 0x02 ∷ 0x12 ∷ 0x00 ∷ 0x14 ∷ 0x00 ∷ 0x00 ∷ 0x00 ∷ 0x23 ∷ 0x00 ∷ 0x00 ∷ 0x00 ∷ 0x07 ∷ 0x00 ∷ 0x1c ∷ 0x00 ∷ 0x04 ∷ 0x00 ∷ 0x00 ∷ 0x00 ∷ 0x00 ∷ []

-- from S, 192.0.2.1, to Z, 192.0.2.99
end_points : List ℕ
end_points = 0x04 ∷ 0x12 ∷ 0x00 ∷ 0x0c ∷ 0xc0 ∷ 0x00 ∷ 0x02 ∷ 0x01 ∷ 0xc0 ∷ 0x00 ∷ 0x02 ∷ 0x63 ∷ []

-- 100.0
bandwidth : List ℕ
bandwidth = 0x05 ∷ 0x10 ∷ 0x00 ∷ 0x08 ∷ 0x42 ∷ 0xc8 ∷ 0x00 ∷ 0x00 ∷ []

-- of type 2, TE, with these flags: 14.0, 13.0, infinity
metric14 : ℕ → List ℕ
metric14 flags = 0x06 ∷ 0x10 ∷ 0x00 ∷ 0x0c ∷ 0x00 ∷ 0x00 ∷ flags ∷ 0x02 ∷ 0x41 ∷ 0x60 ∷ 0x00 ∷ 0x00 ∷ []

metric13 : ℕ → List ℕ
metric13 flags = 0x06 ∷ 0x10 ∷ 0x00 ∷ 0x0c ∷ 0x00 ∷ 0x00 ∷ flags ∷ 0x02 ∷ 0x41 ∷ 0x50 ∷ 0x00 ∷ 0x00 ∷ []

endless : List ℕ
endless = 0x06 ∷ 0x10 ∷ 0x00 ∷ 0x0c ∷ 0x00 ∷ 0x00 ∷ 0x00 ∷ 0x02 ∷ 0x7f ∷ 0x80 ∷ 0x00 ∷ 0x00 ∷ []

-- AS 64497, then 64498
iro : List ℕ
iro = 0x0a ∷ 0x10 ∷ 0x00 ∷ 0x0c ∷ 0x20 ∷ 0x04 ∷ 0xfb ∷ 0xf1 ∷ 0x20 ∷ 0x04 ∷ 0xfb ∷ 0xf2 ∷ []

-- the same, whose length reaches four bytes past its end
long_iro : List ℕ
long_iro = 0x0a ∷ 0x10 ∷ 0x00 ∷ 0x10 ∷ 0x20 ∷ 0x04 ∷ 0xfb ∷ 0xf1 ∷ 0x20 ∷ 0x04 ∷ 0xfb ∷ 0xf2 ∷ []

-- before 64497 an EXRS with Q, 192.0.2.12; and one behind which no domain comes
exrs_iro : List ℕ
exrs_iro =
    (0x0a ∷ 0x10 ∷ 0x00 ∷ 0x18 ∷ [])
    ++ (0x21 ∷ 0x0c ∷ 0x00 ∷ 0x00 ∷ 0x01 ∷ 0x08 ∷ 0xc0 ∷ 0x00 ∷ 0x02 ∷ 0x0c ∷ 0x20 ∷ 0x01 ∷ [])
    ++ (0x20 ∷ 0x04 ∷ 0xfb ∷ 0xf1 ∷ 0x20 ∷ 0x04 ∷ 0xfb ∷ 0xf2 ∷ [])

late_iro : List ℕ
late_iro =
    (0x0a ∷ 0x10 ∷ 0x00 ∷ 0x14 ∷ [])
    ++ (0x20 ∷ 0x04 ∷ 0xfb ∷ 0xf1 ∷ [])
    ++ (0x21 ∷ 0x0c ∷ 0x00 ∷ 0x00 ∷ 0x01 ∷ 0x08 ∷ 0xc0 ∷ 0x00 ∷ 0x02 ∷ 0x0c ∷ 0x20 ∷ 0x01 ∷ [])

-- an EXRS with nothing inside
empty_iro : List ℕ
empty_iro = 0x0a ∷ 0x10 ∷ 0x00 ∷ 0x0c ∷ 0x20 ∷ 0x04 ∷ 0xfb ∷ 0xf1 ∷ 0x21 ∷ 0x04 ∷ 0x00 ∷ 0x00 ∷ []

-- 64497, then 23456, which is nobody's
trans_iro : List ℕ
trans_iro = 0x0a ∷ 0x10 ∷ 0x00 ∷ 0x0c ∷ 0x20 ∷ 0x04 ∷ 0xfb ∷ 0xf1 ∷ 0x20 ∷ 0x04 ∷ 0x5b ∷ 0xa0 ∷ []

-- AS 0 excluded
zero_xro : List ℕ
zero_xro = 0x11 ∷ 0x10 ∷ 0x00 ∷ 0x10 ∷ 0x00 ∷ 0x00 ∷ 0x00 ∷ 0x00 ∷ 0x05 ∷ 0x08 ∷ 0x00 ∷ 0x00 ∷ 0x00 ∷ 0x00 ∷ 0x00 ∷ 0x00 ∷ []

-- F set; Q, 192.0.2.12, excluded
xro : List ℕ
xro = 0x11 ∷ 0x10 ∷ 0x00 ∷ 0x10 ∷ 0x00 ∷ 0x00 ∷ 0x00 ∷ 0x01 ∷ 0x01 ∷ 0x08 ∷ 0xc0 ∷ 0x00 ∷ 0x02 ∷ 0x0c ∷ 0x20 ∷ 0x01 ∷ []

-- an objective function, of class 21, which isn't known: P set, and clear
demanded_of : List ℕ
demanded_of = 0x15 ∷ 0x12 ∷ 0x00 ∷ 0x08 ∷ 0x00 ∷ 0x01 ∷ 0x00 ∷ 0x00 ∷ []

other_of : List ℕ
other_of = 0x15 ∷ 0x10 ∷ 0x00 ∷ 0x08 ∷ 0x00 ∷ 0x01 ∷ 0x00 ∷ 0x00 ∷ []

-- S, P, U, Z
ero : List ℕ
ero =
    (0x07 ∷ 0x10 ∷ 0x00 ∷ 0x24 ∷ [])
    ++ (0x01 ∷ 0x08 ∷ 0xc0 ∷ 0x00 ∷ 0x02 ∷ 0x01 ∷ 0x20 ∷ 0x00 ∷ [])
    ++ (0x01 ∷ 0x08 ∷ 0xc0 ∷ 0x00 ∷ 0x02 ∷ 0x0b ∷ 0x20 ∷ 0x00 ∷ [])
    ++ (0x01 ∷ 0x08 ∷ 0xc0 ∷ 0x00 ∷ 0x02 ∷ 0x16 ∷ 0x20 ∷ 0x00 ∷ [])
    ++ (0x01 ∷ 0x08 ∷ 0xc0 ∷ 0x00 ∷ 0x02 ∷ 0x63 ∷ 0x20 ∷ 0x00 ∷ [])

-- S, then 2001:db8::1, an IPv6 subobject
mixed_ero : List ℕ
mixed_ero =
    (0x07 ∷ 0x10 ∷ 0x00 ∷ 0x20 ∷ [])
    ++ (0x01 ∷ 0x08 ∷ 0xc0 ∷ 0x00 ∷ 0x02 ∷ 0x01 ∷ 0x20 ∷ 0x00 ∷ [])
    ++ (0x02 ∷ 0x14 ∷ 0x20 ∷ 0x01 ∷ 0x0d ∷ 0xb8 ∷ 0x00 ∷ 0x00 ∷ 0x00 ∷ 0x00 ∷ [])
    ++ (0x00 ∷ 0x00 ∷ 0x00 ∷ 0x00 ∷ 0x00 ∷ 0x00 ∷ 0x00 ∷ 0x01 ∷ 0x80 ∷ 0x00 ∷ [])

-- S, then a subobject of type 0, otherwise as type 1 is
zero_ero : List ℕ
zero_ero =
    (0x07 ∷ 0x10 ∷ 0x00 ∷ 0x14 ∷ [])
    ++ (0x01 ∷ 0x08 ∷ 0xc0 ∷ 0x00 ∷ 0x02 ∷ 0x01 ∷ 0x20 ∷ 0x00 ∷ [])
    ++ (0x00 ∷ 0x08 ∷ 0xc0 ∷ 0x00 ∷ 0x02 ∷ 0x63 ∷ 0x20 ∷ 0x00 ∷ [])

-- nature of issue 0, with C
no_path : List ℕ
no_path = 0x03 ∷ 0x10 ∷ 0x00 ∷ 0x08 ∷ 0x00 ∷ 0x80 ∷ 0x00 ∷ 0x00 ∷ []

-- ---- messages

-- the request of document 01's examples, and the same with an object more behind it, and with two METRICs
asks : List ℕ
asks = pcreq 0x30 (rp ++ end_points ++ bandwidth ++ iro)

asks_with : List ℕ → List ℕ
asks_with metric = pcreq 0x3c (rp ++ end_points ++ bandwidth ++ iro ++ metric)

asks_with_both : List ℕ → List ℕ → List ℕ
asks_with_both one other = pcreq 0x48 (rp ++ end_points ++ bandwidth ++ iro ++ one ++ other)

-- no BANDWIDTH; a METRIC, an XRO before the IRO, another METRIC
asks_more : List ℕ
asks_more = pcreq 0x50 (rp ++ end_points ++ metric13 0xfe ++ xro ++ iro ++ metric14 0x81)

path_found : List ℕ
path_found = pcrep 0x40 (clean_rp ++ ero ++ metric14 0x02)

none_found : List ℕ
none_found = pcrep 0x18 (clean_rp ++ no_path)

-- ---- the rows

pub data Case : Type 0 where
  reading_pcreq : List ℕ → ℕ → Case
  building : List ℕ → ℕ → Case
  starting : List ℕ → ℕ → Case
  following : List ℕ → List ℕ → ℕ → Case
  reading_pcrep : List ℕ → ℕ → ℕ → Case
  writing : Reply → ℕ → Case
  writing_lists : List ℕ → List ℕ → List ℕ → ℕ → Case

pub data Result : Type 0 where
  fields : Outcome Metric → Result
  entries : Outcome TreeEntry → Result
  path : Outcome ℕ → Result
  reply : Reading → Result
  bytes : Outcome ℕ → Result

pub record Row : Type 0 where
  pub case : Case
  pub expected : Result

row : Case → Result → Row
row c x = record { case = c; expected = x }

-- answer, place and the other numbers
numbers : ℕ → List ℕ → Numbers
numbers n others = record { answer = n; others = others }

metric : ℕ → ℕ → Metric
metric flags value = record { kind = 2; flags = flags; value = value }

-- the refusals of a reading of a PCReq, of first, and of a reading of a PCRep
unread : ℕ → ℕ → Result
unread n place = fields (record { numbers = numbers n (place ∷ 0 ∷ 0 ∷ 0 ∷ 0 ∷ 0 ∷ 0 ∷ 0 ∷ 0 ∷ 0 ∷ 0 ∷ []); written = [] })

no_answer : ℕ → ℕ → Result
no_answer n place = path (record { numbers = numbers n (place ∷ 0 ∷ 0 ∷ 0 ∷ []); written = [] })

no_reply_lem : ℕ → ℕ → Result
no_reply_lem n place = reply (record { numbers = numbers n (place ∷ 0 ∷ 0 ∷ 0 ∷ 0 ∷ 0 ∷ 0 ∷ 0 ∷ []); addresses = []; metrics = [] })

-- a path of total 14 of the first round
costs14 : List ℕ → Result
costs14 p = path (record { numbers = numbers 0 (0 ∷ 14 ∷ 0x41600000 ∷ 1 ∷ []); written = p })

at : ℕ → ℕ → ℕ → TreeEntry
at level node cost = record { level = level; address = record { 0 = node }; reachable = true; cost = cost }

SPUZ : List ℕ
SPUZ = 0xc0000201 ∷ 0xc000020b ∷ 0xc0000216 ∷ 0xc0000263 ∷ []

SQTZ : List ℕ
SQTZ = 0xc0000201 ∷ 0xc000020c ∷ 0xc0000215 ∷ 0xc0000263 ∷ []

SQUZ : List ℕ
SQUZ = 0xc0000201 ∷ 0xc000020c ∷ 0xc0000216 ∷ 0xc0000263 ∷ []

-- SPUZ with a METRIC of 14.0 and C, read and to be written; no path with C
route : List Metric → Result
route ms = reply (record { numbers = numbers 0 (0 ∷ 7 ∷ 0x23 ∷ 1 ∷ 0 ∷ 0 ∷ 4 ∷ length ms ∷ []); addresses = SPUZ; metrics = ms })

no_route : Result
no_route = reply (record { numbers = numbers 0 (0 ∷ 7 ∷ 0x23 ∷ 0 ∷ 0 ∷ 1 ∷ 0 ∷ 0 ∷ []); addresses = []; metrics = [] })

replied : Bool → List ℕ → Bool → List Metric → Reply
replied found addresses c ms =
    record { request_id = 7; rp_flags = 0x63; found = found; addresses = addresses; nature = 0; c_flag = c; metrics = ms }

-- tree, first and next on W with ingress 0
pub outcome : Case → Result
outcome (reading_pcreq message room) = fields (read_pcreq message room)
outcome (building message room) = entries (pcreq_tree profile_w 0 message room)
outcome (starting message room) = path (pcreq_first profile_w 0 message room)
outcome (following message given room) = path (pcreq_next profile_w 0 message given room)
outcome (reading_pcrep message address_room metric_room) = reply (read_pcrep message address_room metric_room)
outcome (writing r room) = bytes (write_pcrep r false room)
-- SPUZ with METRICs from three lent lists
outcome (writing_lists kinds flags values room) = bytes (write_pcrep (replied true SPUZ false (metrics_of kinds flags values)) (apart kinds flags values) room)

pub requests : List Row
requests =
    -- the fields
    row (reading_pcreq asks 0)
    (fields (record { numbers = numbers 0 (0 ∷ 7 ∷ 0x23 ∷ 0xc0000201 ∷ 0xc0000263 ∷ 0x42c80000 ∷ 0 ∷ 40 ∷ 8 ∷ 0 ∷ 0 ∷ []); written = [] }))
    ∷ row (reading_pcreq asks_more 2)
    (fields
    (record {
      numbers = numbers 0 (0 ∷ 7 ∷ 0x23 ∷ 0xc0000201 ∷ 0xc0000263 ∷ 0 ∷ 2 ∷ 60 ∷ 8 ∷ 48 ∷ 8 ∷ []);
      written = metric 0xfe 0x41500000 ∷ metric 0x81 0x41600000 ∷ [];
    }))
    ∷ row (reading_pcreq asks_more 1) (unread 34 0)
    -- the frame: type 4; an object past the end; an unknown object demanded, and not; no RP, no END-POINTS
    ∷ row (reading_pcreq (pcrep 0x30 (rp ++ end_points ++ bandwidth ++ iro)) 0) (unread 36 0)
    ∷ row (reading_pcreq (pcreq 0x30 (rp ++ end_points ++ bandwidth ++ long_iro)) 0) (unread 37 36)
    ∷ row (reading_pcreq (pcreq 0x38 (rp ++ demanded_of ++ end_points ++ bandwidth ++ iro)) 0) (unread 38 16)
    ∷ row (reading_pcreq (pcreq 0x38 (rp ++ other_of ++ end_points ++ bandwidth ++ iro)) 0)
    (fields (record { numbers = numbers 0 (0 ∷ 7 ∷ 0x23 ∷ 0xc0000201 ∷ 0xc0000263 ∷ 0x42c80000 ∷ 0 ∷ 48 ∷ 8 ∷ 0 ∷ 0 ∷ []); written = [] }))
    ∷ row (reading_pcreq (pcreq 0x24 (end_points ++ bandwidth ++ iro)) 0) (unread 39 0)
    ∷ row (reading_pcreq (pcreq 0x24 (rp ++ bandwidth ++ iro)) 0) (unread 40 0)
    -- a METRIC out of range, though it has no B
    ∷ row (reading_pcreq (asks_with endless) 1) (unread 21 1)
    ∷ []

-- the calls on W
pub answers : List Row
answers =
    -- the tree; the three paths, then the end
    row (building asks 5)
    (entries
    (record {
      numbers = numbers 0 (0 ∷ 5 ∷ 8 ∷ 1 ∷ []);
      written = at 0 0xc0000201 14 ∷ at 1 0xc000020b 4 ∷ at 1 0xc000020c 11 ∷ at 2 0xc0000215 2 ∷ at 2 0xc0000216 3 ∷ [];
    }))
    ∷ row (starting asks 4) (costs14 SPUZ)
    ∷ row (following asks SPUZ 4) (costs14 SQTZ)
    ∷ row (following asks SQTZ 4) (costs14 SQUZ)
    ∷ row (following asks SQUZ 4) (no_answer 2 0)
    -- the bound: 13.0 and 14.0; B on the second METRIC alone, and on both; a METRIC out of range, though it has no B
    ∷ row (starting (asks_with (metric13 0x01)) 4) (no_answer 1 0)
    ∷ row (starting (asks_with (metric14 0x01)) 4) (costs14 SPUZ)
    ∷ row (starting (asks_with_both (metric13 0x02) (metric14 0x01)) 4) (costs14 SPUZ)
    ∷ row (starting (asks_with_both (metric14 0x03) (metric13 0x01)) 4) (costs14 SPUZ)
    ∷ row (starting (asks_with endless) 4) (no_answer 21 1)
    -- Q excluded, no BANDWIDTH, and a bound of 14.0
    ∷ row (starting asks_more 4) (costs14 SPUZ)
    ∷ row (following asks_more SPUZ 4) (no_answer 2 0)
    -- an EXRS in the IRO keeps Q out; with no domain after it 42 at its offset in the list, which a reading alone doesn't ask; with nothing inside 26 there
    ∷ row (starting (pcreq 0x3c (rp ++ end_points ++ bandwidth ++ exrs_iro)) 4) (costs14 SPUZ)
    ∷ row (following (pcreq 0x3c (rp ++ end_points ++ bandwidth ++ exrs_iro)) SPUZ 4) (no_answer 2 0)
    ∷ row (starting (pcreq 0x38 (rp ++ end_points ++ bandwidth ++ late_iro)) 4) (no_answer 42 4)
    ∷ row (reading_pcreq (pcreq 0x38 (rp ++ end_points ++ bandwidth ++ late_iro)) 0)
    (fields (record { numbers = numbers 0 (0 ∷ 7 ∷ 0x23 ∷ 0xc0000201 ∷ 0xc0000263 ∷ 0x42c80000 ∷ 0 ∷ 40 ∷ 16 ∷ 0 ∷ 0 ∷ []); written = [] }))
    ∷ row (reading_pcreq (pcreq 0x30 (rp ++ end_points ++ bandwidth ++ empty_iro)) 0) (unread 26 4)
    -- an AS that is nobody's in the IRO, and in the XRO, at its offset in the list
    ∷ row (reading_pcreq (pcreq 0x30 (rp ++ end_points ++ bandwidth ++ trans_iro)) 0) (unread 26 4)
    ∷ row (starting (pcreq 0x30 (rp ++ end_points ++ bandwidth ++ trans_iro)) 4) (no_answer 26 4)
    ∷ row (reading_pcreq (pcreq 0x40 (rp ++ end_points ++ bandwidth ++ iro ++ zero_xro)) 0) (unread 26 0)
    ∷ row (starting (pcreq 0x40 (rp ++ end_points ++ bandwidth ++ iro ++ zero_xro)) 4) (no_answer 26 0)
    -- 36 to 40 come before all else, here no END-POINTS
    ∷ row (starting (pcreq 0x24 (rp ++ bandwidth ++ iro)) 4) (no_answer 40 0)
    ∷ []

pub exchanged : List Row
exchanged =
    -- a path: its bytes, and back; capacity short by a byte, by an address, by a METRIC
    row (writing (replied true SPUZ false (metric 0x02 0x41600000 ∷ [])) 64) (bytes (record { numbers = numbers 0 (0 ∷ 64 ∷ []); written = path_found }))
    ∷ row (writing (replied true SPUZ false (metric 0x02 0x41600000 ∷ [])) 63) (bytes (record { numbers = numbers 34 (0 ∷ 0 ∷ []); written = [] }))
    ∷ row (reading_pcrep path_found 4 1) (route (metric 0x02 0x41600000 ∷ []))
    ∷ row (reading_pcrep path_found 3 1) (no_reply_lem 34 0)
    ∷ row (reading_pcrep path_found 4 0) (no_reply_lem 34 0)
    -- no path: its bytes, and back
    ∷ row (writing (replied false SPUZ true []) 24) (bytes (record { numbers = numbers 0 (0 ∷ 24 ∷ []); written = none_found }))
    ∷ row (reading_pcrep none_found 0 0) no_route
    -- both, either first; neither
    ∷ row (reading_pcrep (pcrep 0x3c (clean_rp ++ ero ++ no_path)) 4 0) (route [])
    ∷ row (reading_pcrep (pcrep 0x3c (clean_rp ++ no_path ++ ero)) 0 0) no_route
    ∷ row (reading_pcrep (pcrep 0x10 clean_rp) 0 0) (no_reply_lem 41 0)
    -- a TLV behind RP, and a flag of RP that isn't assigned
    ∷ row (reading_pcrep (pcrep 0x3c (rp_with_tlv ++ ero)) 4 0) (route [])
    ∷ row (reading_pcrep (pcrep 0x34 (rp ++ ero)) 4 0) (route [])
    -- an IPv6 subobject
    ∷ row (reading_pcrep (pcrep 0x30 (clean_rp ++ mixed_ero)) 4 0) (no_reply_lem 24 8)
    -- a subobject of type 0
    ∷ row (reading_pcrep (pcrep 0x24 (clean_rp ++ zero_ero)) 4 0) (no_reply_lem 24 8)
    -- METRIC lists that belong together, and that differ in the number of values alone
    ∷ row (writing_lists (2 ∷ []) (0x02 ∷ []) (0x41600000 ∷ []) 64) (bytes (record { numbers = numbers 0 (0 ∷ 64 ∷ []); written = path_found }))
    ∷ row (writing_lists (2 ∷ []) (0x02 ∷ []) [] 64) (bytes (record { numbers = numbers 37 (0 ∷ 0 ∷ []); written = [] }))
    ∷ row (writing_lists (2 ∷ []) (0x02 ∷ []) (0x41600000 ∷ 0 ∷ []) 64) (bytes (record { numbers = numbers 37 (0 ∷ 0 ∷ []); written = [] }))
    ∷ []

pub table : List Row
table = requests ++ answers ++ exchanged

-- every row holds
pub worked_messages : map (λ (r : Row). outcome r.case) table ≡ map (λ (r : Row). r.expected) table
unfolding pcreq pcrep rp clean_rp rp_with_tlv end_points bandwidth metric14 metric13 endless iro long_iro exrs_iro late_iro empty_iro trans_iro zero_xro xro demanded_of other_of ero mixed_ero zero_ero no_path asks asks_with asks_with_both asks_more path_found none_found outcome row numbers metric unread no_answer no_reply_lem costs14 at SPUZ SQTZ SQUZ route no_route replied requests answers exchanged table profile_w count_from keep each among all_different sum least same below insert different number bytes_of all_zero in_turn in_ranges misplaced nobodys Profile.header_wrong Profile.counts_wrong Profile.length_wrong Profile.header_verdict Profile.domain_at Profile.domains Profile.area_length_fits Profile.domain_malformed Profile.domain_misordered Profile.domain_verdict Profile.hop_at Profile.hops Profile.hop_malformed Profile.hop_misordered Profile.hop_verdict Profile.entry_nodes Profile.crowded Profile.crowded_verdict Profile.profile_verdict Subobject.known Subobject.length_fits Subobject.field_wrong Subobject.plain_verdict Subobject.carried_verdict Subobject.subobject_verdict Subobject.named_at Subobject.form_verdict Subobject.subobjects Subobject.carried exrs_of of_system of_area enter name read_one read_all meaning in_force some_desired excluded_domain excluded_node units in_range at_least at_most float_of request_verdict sequence_of all_exclusions search_in round_of search_of Path.legs Path.keeps_bound Path.exclusions_at Path.allowed Path.hops_from Path.suffixes Path.paths Path.admissible Path.cheapest Path.shortest_paths Tree.entries_at Tree.entry Tree.tree Tree.tally build_tree first greater_than next of_bits to_bits of_fields odd size span climb of_int round is_nan Ieee.units count_trailing_zeros checked_along places_along first_of known_object own_length object_verdict first_object message_verdict metrics wrong_metric bound_metric pcreq_verdict read_pcreq pcreq_tree pcreq_first pcreq_next step_verdict addresses_in pcrep_verdict read_pcrep written_pcrep write_verdict write_pcrep metrics_of Profile.layout_in
worked_messages = refl
