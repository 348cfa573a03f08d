-- What it means that a profile is accepted, taken apart by named facts: of the header, of each domain record, of each hop record. Over any layout of hop records.
-- The facts hold exactly when `profile_verdict` passes, by the laws of checks one after the other.
use Prim.Native.Nat.{ℕ, ◌+◌, ◌≤◌, ◌<◌}
use native.Mathlib.Omega.{arith}
use mathlib.Core.Path.{◌≡◌, ap}
use mathlib.Core.Logic.{◌↔◌}
use mathlib.Core.Bool.{Bool, true, false, not, ◌||◌}
use mathlib.Core.List.{List}
use lib.ListN.{length, get_or, drop}
use lib.Dec.{ltb}
use borrow.Author.Tests.{ltb-false, leb-false, eqb-true, eqb-false, not-false, le-ltb, lt-leb, eq-eqb, ne_eqb}
use Rattle.model.specs.Bytes.{number, all_zero}
use Rattle.model.specs.Verdict.{Pass, refuse_if, ◌and_then◌, in_turn}
use Rattle.model.specs.Reserved.{as_ranges, address_ranges, misplaced, nobodys}
use Rattle.model.specs.Profile.{Layout, class_of, domain_count, hop_count, domain_start, hop_start, bandwidth_bits, header_wrong, counts_wrong, length_wrong, header_verdict, domain_at, area_length_fits, domain_malformed, domain_misordered, domain_verdict, other_cost, hop_at, hop_malformed, hop_misordered, hop_verdict, crowded, crowded_verdict, profile_verdict}
use Rattle.laws.proofs.Tests.{or_neither, neither_or}
use Rattle.laws.proofs.Turns.{refuse_if_pass, and_then-refuse_if, and_then_pass, in_turn_pass_all}

-- domain record i: its area's length is the kind's, the bytes after the area and the last byte are zero, its AS is somebody's; the record's order and AS are right
pub record AcceptedDomain (s : List ℕ) (i : ℕ) : Type 0 where
  pub area_fits : area_length_fits (domain_at s i).kind (domain_at s i).length ≡ true
  pub area_padded : all_zero (drop (domain_at s i).length (domain_at s i).area) ≡ true
  pub last_zero : get_or s (domain_start i + 19) 0 ≡ 0
  pub as_owned : nobodys (domain_at s i).asn ≡ false
  pub ordered : domain_misordered s i ≡ false
  pub as_placed : misplaced (class_of s) as_ranges (domain_at s i).asn ≡ false

-- hop record i: its domains exist, both costs and the bandwidth are in range; its order and nodes are right; its pair has at most 16 entry nodes up to here
pub record AcceptedHop (L : Layout) (s : List ℕ) (i : ℕ) : Type 0 where
  pub from_exists : (hop_at L s i).from.0 < domain_count s
  pub to_exists : (hop_at L s i).to.0 < domain_count s
  pub cost_in_range : (hop_at L s i).cost ≤ L.most_cost
  pub other_in_range : other_cost L s i ≤ L.most_cost
  pub bandwidth_in_range : bandwidth_bits L s i < 0x7f800000
  pub ordered : hop_misordered L s i ≡ false
  pub tail_placed : misplaced (class_of s) address_ranges (hop_at L s i).tail.0 ≡ false
  pub head_placed : misplaced (class_of s) address_ranges (hop_at L s i).head.0 ≡ false
  pub uncrowded : crowded L s i ≡ false

pub record AcceptedProfile (L : Layout) (s : List ℕ) : Type 0 where
  pub has_header : 12 ≤ length s
  pub mark : number 3 s 0 ≡ 0x445350
  pub version : number 2 s 3 ≡ L.version
  pub header_zeros : number 2 s 10 ≡ 0
  pub class_in_range : class_of s ≤ 1
  pub some_domain : 1 ≤ domain_count s
  pub most_domains : domain_count s ≤ 64
  pub most_hops : hop_count s ≤ L.most_hops
  pub sized : length s ≡ hop_start L s (hop_count s)
  pub domain : (i : ℕ) → i < domain_count s → AcceptedDomain s i
  pub hop : (i : ℕ) → i < hop_count s → AcceptedHop L s i

-- ---- each check, and the facts that it stands for

-- three refusals at one place
three_tests : (a b c : Bool) (k m n p : ℕ) → (refuse_if a k p and_then refuse_if b m p and_then refuse_if c n p ≡ Pass) ↔ ((a ≡ false) × (b ≡ false) × (c ≡ false))
three_tests a b c k m n p = (
  λ e.
      let x = (and_then-refuse_if (refuse_if a k p and_then refuse_if b m p) c n p).0 e in
      let y = (and_then-refuse_if (refuse_if a k p) b m p).0 x.0 in
      ((refuse_if_pass a k p).0 y.0, y.1, x.1),
  λ e. (and_then-refuse_if (refuse_if a k p and_then refuse_if b m p) c n p).1 ((and_then-refuse_if (refuse_if a k p) b m p).1 ((refuse_if_pass a k p).1 e.0, e.1), e.2),
)

three_or : (a b c : Bool) → (a || b || c ≡ false) ↔ ((a ≡ false) × (b ≡ false) × (c ≡ false))
three_or a b c = (
  λ e. let x = or_neither (a || b) c e in let y = or_neither a b x.0 in (y.0, y.1, x.1),
  λ e. neither_or (a || b) c (neither_or a b e.0 e.1) e.2,
)

four_or : (a b c d : Bool) → (a || b || c || d ≡ false) ↔ ((a ≡ false) × (b ≡ false) × (c ≡ false) × (d ≡ false))
four_or a b c d = (
  λ e. let x = or_neither (a || b || c) d e in let y = (three_or a b c).0 x.0 in (y.0, y.1, y.2, x.1),
  λ e. neither_or (a || b || c) d ((three_or a b c).1 (e.0, e.1, e.2)) e.3,
)

five_or : (a b c d e : Bool) → (a || b || c || d || e ≡ false) ↔ ((a ≡ false) × (b ≡ false) × (c ≡ false) × (d ≡ false) × (e ≡ false))
five_or a b c d e = (
  λ p. let x = or_neither (a || b || c || d) e p in let y = (four_or a b c d).0 x.0 in (y.0, y.1, y.2, y.3, x.1),
  λ p. neither_or (a || b || c || d) e ((four_or a b c d).1 (p.0, p.1, p.2, p.3)) p.4,
)

domain-passes : (s : List ℕ) (i : ℕ) → (domain_verdict s i ≡ Pass) ↔ AcceptedDomain s i
unfolding domain_verdict domain_malformed
domain-passes s i = (
  λ e.
      let x = (three_tests (domain_malformed s i) (domain_misordered s i) (misplaced (class_of s) as_ranges (domain_at s i).asn) 14 15 16 i).0 e in
      let y = (four_or _ _ _ _).0 x.0 in
      record {
        area_fits = not-false _ y.0;
        area_padded = not-false _ y.1;
        last_zero = eqb-true _ _ (not-false _ y.2);
        as_owned = y.3;
        ordered = x.1;
        as_placed = x.2;
      },
  λ a. (three_tests _ _ _ _ _ _ _).1 ((four_or _ _ _ _).1 (ap not a.area_fits, ap not a.area_padded, ap not (eq-eqb _ _ a.last_zero), a.as_owned), a.ordered, a.as_placed),
)

header-passes
    : (L : Layout) (s : List ℕ)
    → (header_verdict L s ≡ Pass) ↔ ((ltb (length s) 12 ≡ false) × (header_wrong L s ≡ false) × (counts_wrong L s ≡ false) × (length_wrong L s ≡ false))
unfolding header_verdict
header-passes L s = (
  λ e.
      let d = (and_then-refuse_if _ (length_wrong L s) 13 0).0 e in
      let c = (three_tests (ltb (length s) 12) (header_wrong L s) (counts_wrong L s) 10 11 12 0).0 d.0 in
      (c.0, c.1, c.2, d.1),
  λ e. (and_then-refuse_if _ (length_wrong L s) 13 0).1 ((three_tests (ltb (length s) 12) (header_wrong L s) (counts_wrong L s) 10 11 12 0).1 (e.0, e.1, e.2), e.3),
)

hop-passes : (L : Layout) (s : List ℕ) (i : ℕ) → ((hop_verdict L s i ≡ Pass) × (crowded_verdict L s i ≡ Pass)) ↔ AcceptedHop L s i
unfolding hop_verdict hop_malformed crowded_verdict
hop-passes L s i = (
  λ e.
      let x = (three_tests (hop_malformed L s i) (hop_misordered L s i) _ 17 18 16 (domain_count s + i)).0 e.0 in
      let y = (five_or _ _ _ _ _).0 x.0 in
      let z = or_neither _ _ x.2 in
      record {
        from_exists = leb-false _ _ y.0;
        to_exists = leb-false _ _ y.1;
        cost_in_range = ltb-false _ _ y.2;
        other_in_range = ltb-false _ _ y.3;
        bandwidth_in_range = leb-false _ _ y.4;
        ordered = x.1;
        tail_placed = z.0;
        head_placed = z.1;
        uncrowded = (refuse_if_pass (crowded L s i) 19 (domain_count s + i)).0 e.1;
      },
  λ a. (
    (three_tests _ _ _ _ _ _ _).1
        ((five_or _ _ _ _ _).1 (lt-leb _ _ a.from_exists, lt-leb _ _ a.to_exists, le-ltb _ _ a.cost_in_range, le-ltb _ _ a.other_in_range, lt-leb _ _ a.bandwidth_in_range), a.ordered, neither_or _ _ a.tail_placed a.head_placed),
    (refuse_if_pass (crowded L s i) 19 (domain_count s + i)).1 a.uncrowded,
  ),
)

pub accepted : (L : Layout) (s : List ℕ) → profile_verdict L s ≡ Pass → AcceptedProfile L s
unfolding profile_verdict header_wrong counts_wrong length_wrong
accepted L s e =
    let c = (and_then_pass _ (in_turn (crowded_verdict L s) 0 (hop_count s))).0 e in
    let h = (and_then_pass _ (in_turn (hop_verdict L s) 0 (hop_count s))).0 c.0 in
    let d = (and_then_pass (header_verdict L s) (in_turn (domain_verdict s) 0 (domain_count s))).0 h.0 in
    let head = (header-passes L s).0 d.0 in
    let marks = (three_or _ _ _).0 head.1 in
    let counts = (four_or _ _ _ _).0 head.2 in
    let some : ¬ (domain_count s ≡ 0) = eqb-false _ _ counts.1 in
    record {
      has_header = ltb-false _ _ head.0;
      mark = eqb-true _ _ (not-false _ marks.0);
      version = eqb-true _ _ (not-false _ marks.1);
      header_zeros = eqb-true _ _ (not-false _ marks.2);
      class_in_range = ltb-false _ _ counts.0;
      some_domain = omega arith;
      most_domains = ltb-false _ _ counts.2;
      most_hops = ltb-false _ _ counts.3;
      sized = eqb-true _ _ (not-false _ head.3);
      domain = λ i k. (domain-passes s i).0 ((in_turn_pass_all (domain_verdict s) (domain_count s)).0 d.1 i k);
      hop = λ i k. (hop-passes L s i).0 ((in_turn_pass_all (hop_verdict L s) (hop_count s)).0 h.1 i k, (in_turn_pass_all (crowded_verdict L s) (hop_count s)).0 c.1 i k);
    }

-- and the facts are all that the checks ask
pub accepts : (L : Layout) (s : List ℕ) → AcceptedProfile L s → profile_verdict L s ≡ Pass
unfolding profile_verdict header_wrong counts_wrong length_wrong
accepts L s a =
    let some : ¬ (domain_count s ≡ 0) = omega (arith, a.some_domain) in
    let marks = (three_or _ _ _).1 (ap not (eq-eqb _ _ a.mark), ap not (eq-eqb _ _ a.version), ap not (eq-eqb _ _ a.header_zeros)) in
    let counts = (four_or _ _ _ _).1 (le-ltb _ _ a.class_in_range, ne_eqb _ _ some, le-ltb _ _ a.most_domains, le-ltb _ _ a.most_hops) in
    let head = (header-passes L s).1 (le-ltb _ _ a.has_header, marks, counts, ap not (eq-eqb _ _ a.sized)) in
    let d = (in_turn_pass_all (domain_verdict s) (domain_count s)).1 (λ i k. (domain-passes s i).1 (a.domain i k)) in
    let h = (in_turn_pass_all (hop_verdict L s) (hop_count s)).1 (λ i k. ((hop-passes L s i).1 (a.hop i k)).0) in
    let c = (in_turn_pass_all (crowded_verdict L s) (hop_count s)).1 (λ i k. ((hop-passes L s i).1 (a.hop i k)).1) in
    (and_then_pass _ (in_turn (crowded_verdict L s) 0 (hop_count s))).1 (
      (and_then_pass _ (in_turn (hop_verdict L s) 0 (hop_count s))).1
          ((and_then_pass (header_verdict L s) (in_turn (domain_verdict s) 0 (domain_count s))).1 (head, d), h),
      c,
    )
