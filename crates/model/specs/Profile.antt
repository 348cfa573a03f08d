-- What a profile file holds, and the checks 10 to 19 in document 01's order: "What a profile file holds" and "Numbers the calculator gives".
use Rattle.std.specs.Prelude.{ℕ, zero, suc, ◌+◌, ◌*◌, Bool, false, not, ◌&&◌, ◌||◌, List, [], ◌∷◌, map, length, get_or, take, drop, eqb, leb, ltb}
use Rattle.std.specs.Float.{binary32}
use Rattle.std.specs.Float.Ieee.{of_bits}
use Rattle.model.specs.declared.Domain.{Domain}
use Rattle.model.specs.declared.Hop.{Hop}
use Rattle.model.specs.Lists.{any, below, count_from, different, keep}
use Rattle.model.specs.Bytes.{number, part, all_zero}
use Rattle.model.specs.Verdict.{Verdict, refuse_if, ◌and_then◌, in_turn}
use Rattle.model.specs.Reserved.{as_ranges, address_ranges, misplaced, nobodys}

-- What a version of the format sets: its number, the size of a hop record, the places in it of the cost that counts and of
-- the other cost (in a record of one cost the same place), the largest cost, the most hops.
pub record Layout : Type 0 where
  pub version : ℕ
  pub hop_size : ℕ
  pub cost_at : ℕ
  pub other_at : ℕ
  pub most_cost : ℕ
  pub most_hops : ℕ

-- the largest cost of a hop, in every version: 24 bits, as a wide IS-IS metric has (document 02, request [4])
abbrev pub cost_limit : ℕ
cost_limit = 16777215

abbrev pub version1 : Layout
version1 = record { version = 1; hop_size = 20; cost_at = 12; other_at = 12; most_cost = cost_limit; most_hops = 3000 }

-- the layout that a profile's own bytes say
unfoldable pub layout_in : List ℕ → Layout
layout_in s = version1

-- ---- header, 12 bytes: mark DSP, version u16, class u8, domain count u16, hop count u16, two zero bytes

abbrev pub class_of : List ℕ → ℕ
class_of s = get_or s 5 0

abbrev pub domain_count : List ℕ → ℕ
domain_count s = number 2 s 6

abbrev pub hop_count : List ℕ → ℕ
hop_count s = number 2 s 8

-- where domain record i starts, and where hop record i starts
abbrev pub domain_start : ℕ → ℕ
domain_start i = 12 + 20 * i

abbrev pub hop_start : Layout → List ℕ → ℕ → ℕ
hop_start L s i = 12 + 20 * domain_count s + L.hop_size * i

-- mark, version or zero bytes wrong
unfoldable pub header_wrong : Layout → List ℕ → Bool
header_wrong L s = not (eqb (number 3 s 0) 0x445350) || not (eqb (number 2 s 3) L.version) || not (eqb (number 2 s 10) 0)

-- class or a count out of range
unfoldable pub counts_wrong : Layout → List ℕ → Bool
counts_wrong L s = ltb 1 (class_of s) || eqb (domain_count s) 0 || ltb 64 (domain_count s) || ltb L.most_hops (hop_count s)

-- length not that of the header and as many records as it says
unfoldable pub length_wrong : Layout → List ℕ → Bool
length_wrong L s = not (eqb (length s) (hop_start L s (hop_count s)))

unfoldable pub header_verdict : Layout → List ℕ → Verdict
header_verdict L s =
    refuse_if (ltb (length s) 12) 10 0
    and_then refuse_if (header_wrong L s) 11 0
    and_then refuse_if (counts_wrong L s) 12 0
    and_then refuse_if (length_wrong L s) 13 0

-- ---- domain record, 20 bytes: AS u32, area kind u8, area length u8, 13 area bytes, one zero byte

unfoldable pub domain_at : List ℕ → ℕ → Domain
domain_at s i =
    record {
      asn = number 4 s (domain_start i);
      kind = get_or s (domain_start i + 4) 0;
      length = get_or s (domain_start i + 5) 0;
      area = part s (domain_start i + 6) 13;
    }

unfoldable pub domains : List ℕ → List Domain
domains s = map (domain_at s) (count_from 0 (domain_count s))

-- the area lengths of each area kind: 0 none, 1 OSPF, 2 IS-IS
pub record AreaRule : Type 0 where
  pub kind : ℕ
  pub least : ℕ
  pub most : ℕ

abbrev pub area_rules : List AreaRule
area_rules =
    record { kind = 0; least = 0; most = 0 }
    ∷ record { kind = 1; least = 4; most = 4 }
    ∷ record { kind = 2; least = 1; most = 13 }
    ∷ []

unfoldable pub area_length_fits : ℕ → ℕ → Bool
area_length_fits k n = any (λ (r : AreaRule). eqb k r.kind && leb r.least n && leb n r.most) area_rules

-- kind unknown, length not the kind's, an area byte after the length or the last byte not zero, an AS that is nobody's
unfoldable pub domain_malformed : List ℕ → ℕ → Bool
domain_malformed s i =
    let d = domain_at s i in
    not (area_length_fits d.kind d.length)
    || not (all_zero (drop d.length d.area))
    || not (eqb (get_or s (domain_start i + 19) 0) 0)
    || nobodys d.asn

-- Not above the record before it, compared as bytes; or the record before it is of kind 0 and of the same AS. (Ascending records of one AS
-- stand together and kind 0 comes first, so that is the record before.)
unfoldable pub domain_misordered : List ℕ → ℕ → Bool
domain_misordered s zero = false
domain_misordered s (suc i) =
    not (below (part s (domain_start i) 20) (part s (domain_start (suc i)) 20))
    || (eqb (domain_at s i).kind 0 && eqb (domain_at s i).asn (domain_at s (suc i)).asn)

unfoldable pub domain_verdict : List ℕ → ℕ → Verdict
domain_verdict s i =
    refuse_if (domain_malformed s i) 14 i
    and_then refuse_if (domain_misordered s i) 15 i
    and_then refuse_if (misplaced (class_of s) as_ranges (domain_at s i).asn) 16 i

-- ---- hop record, 20 bytes: D u16, E u16, u u32, v u32, cost u32, bandwidth as 32-bit float bits

abbrev pub cost_of_hop : Layout → List ℕ → ℕ → ℕ
cost_of_hop L s i = number 4 s (hop_start L s i + L.cost_at)

-- the cost that doesn't count, which is judged all the same
abbrev pub other_cost : Layout → List ℕ → ℕ → ℕ
other_cost L s i = number 4 s (hop_start L s i + L.other_at)

abbrev pub bandwidth_bits : Layout → List ℕ → ℕ → ℕ
bandwidth_bits L s i = number 4 s (hop_start L s i + 16)

unfoldable pub hop_at : Layout → List ℕ → ℕ → Hop
hop_at L s i =
    record {
      from = record { 0 = number 2 s (hop_start L s i) };
      to = record { 0 = number 2 s (hop_start L s i + 2) };
      tail = record { 0 = number 4 s (hop_start L s i + 4) };
      head = record { 0 = number 4 s (hop_start L s i + 8) };
      cost = cost_of_hop L s i;
      bandwidth = of_bits binary32 (bandwidth_bits L s i);
    }

unfoldable pub hops : Layout → List ℕ → List Hop
hops L s = map (hop_at L s) (count_from 0 (hop_count s))

-- D or E not below the domain count, a cost over the limit, bandwidth bits from 7F800000 up
unfoldable pub hop_malformed : Layout → List ℕ → ℕ → Bool
hop_malformed L s i =
    let h = hop_at L s i in
    leb (domain_count s) h.from.0
    || leb (domain_count s) h.to.0
    || ltb L.most_cost h.cost
    || ltb L.most_cost (other_cost L s i)
    || leb 0x7f800000 (bandwidth_bits L s i)

-- not above the record before it by the first 12 bytes
unfoldable pub hop_misordered : Layout → List ℕ → ℕ → Bool
hop_misordered L s zero = false
hop_misordered L s (suc i) = not (below (part s (hop_start L s i) 12) (part s (hop_start L s (suc i)) 12))

-- its place counts the domain records, which stand first
unfoldable pub hop_verdict : Layout → List ℕ → ℕ → Verdict
hop_verdict L s i =
    let h = hop_at L s i in
    let place = domain_count s + i in
    refuse_if (hop_malformed L s i) 17 place
    and_then refuse_if (hop_misordered L s i) 18 place
    and_then refuse_if (misplaced (class_of s) address_ranges h.tail.0 || misplaced (class_of s) address_ranges h.head.0) 16 place

-- ---- at most 16 entry nodes for each pair of different domains

abbrev pub between : ℕ → ℕ → Hop → Bool
between d e h = eqb h.from.0 d && eqb h.to.0 e

-- the different entry nodes that some hop records bring for one pair, ascending
unfoldable pub entry_nodes : ℕ → ℕ → List Hop → List ℕ
entry_nodes d e hs = different (map (λ (h : Hop). h.head.0) (keep (between d e) hs))

-- of the records up to this one, its pair has more than 16
unfoldable pub crowded : Layout → List ℕ → ℕ → Bool
crowded L s i =
    let h = hop_at L s i in
    not (eqb h.from.0 h.to.0) && ltb 16 (length (entry_nodes h.from.0 h.to.0 (take (suc i) (hops L s))))

unfoldable pub crowded_verdict : Layout → List ℕ → ℕ → Verdict
crowded_verdict L s i = refuse_if (crowded L s i) 19 (domain_count s + i)

-- ---- all checks of a profile

unfoldable pub profile_verdict : Layout → List ℕ → Verdict
profile_verdict L s =
    header_verdict L s
    and_then in_turn (domain_verdict s) 0 (domain_count s)
    and_then in_turn (hop_verdict L s) 0 (hop_count s)
    and_then in_turn (crowded_verdict L s) 0 (hop_count s)

-- on a profile of the layout that its own bytes say
abbrev pub verdict_on : List ℕ → Verdict
verdict_on s = profile_verdict (layout_in s) s
