-- What passing a part of the check says: hop records have a bandwidth that is a number, and their order; a header stands in a file of its length.
use mathlib.Core.Path.{◌≡◌}
use mathlib.Core.Bool.{false, ◌||◌}
use mathlib.Core.List.{List}
use Prim.Native.Nat.{ℕ, ◌+◌, ◌<◌, ◌≤◌}
use borrow.Author.Tests.{leb-false, ltb-false, eqb-true, not-false}
use lib.ListN.{length}
use lib.Dec.{leb, ltb}
use Rattle.model.specs.Verdict.{Pass, refuse_if, ◌and_then◌, in_turn}
use Rattle.model.specs.Profile.{Layout, domain_count, other_cost, bandwidth_bits, hop_at, hop_malformed, hop_misordered, hop_verdict, hop_start, hop_count, header_wrong, counts_wrong, length_wrong, header_verdict}
use Rattle.laws.proofs.Tests.{or_neither}
use Rattle.profile_record_checks.specs.Misplaced.{hop_misplaced}
use Rattle.laws.proofs.Turns.{and_then-refuse_if, refuse_if_pass, in_turn_pass_all}

module _ (L : Layout) (s : List ℕ) where
  -- a hop record that passed is neither malformed nor out of order
  passed-hop : (i : ℕ) → hop_verdict L s i ≡ Pass → (hop_malformed L s i ≡ false) × (hop_misordered L s i ≡ false)
  unfolding hop_verdict
  passed-hop i e =
      let place = domain_count s + i in
      let front = ((and_then-refuse_if (refuse_if (hop_malformed L s i) 17 place and_then refuse_if (hop_misordered L s i) 18 place) (hop_misplaced L s i) 16 place).0 e).0 in
      let each = (and_then-refuse_if (refuse_if (hop_malformed L s i) 17 place) (hop_misordered L s i) 18 place).0 front in
      ((refuse_if_pass (hop_malformed L s i) 17 place).0 each.0, each.1)

  numeric : (i : ℕ) → hop_malformed L s i ≡ false → bandwidth_bits L s i < 0x7f800000
  unfolding hop_malformed
  numeric i e =
      let h = hop_at L s i in
      leb-false _ _ (or_neither (leb (domain_count s) h.from.0 || leb (domain_count s) h.to.0 || ltb L.most_cost h.cost || ltb L.most_cost (other_cost L s i)) _ e).1

  module _ (n : ℕ) (passed : in_turn (hop_verdict L s) 0 n ≡ Pass) (k : ℕ) (h : k < n) where
    pub all_ordered : hop_misordered L s k ≡ false
    all_ordered = (passed-hop k ((in_turn_pass_all (hop_verdict L s) n).0 passed k h)).1

    pub all_numeric : bandwidth_bits L s k < 0x7f800000
    all_numeric = numeric k (passed-hop k ((in_turn_pass_all (hop_verdict L s) n).0 passed k h)).0

  -- a header that passed stands in a file of its length
  pub passed-header : header_verdict L s ≡ Pass → (12 ≤ length s) × (length s ≡ hop_start L s (hop_count s))
  unfolding header_verdict length_wrong
  passed-header e =
      let last = (and_then-refuse_if (refuse_if (ltb (length s) 12) 10 0 and_then refuse_if (header_wrong L s) 11 0 and_then refuse_if (counts_wrong L s) 12 0) (length_wrong L s) 13 0).0 e in
      let third = (and_then-refuse_if (refuse_if (ltb (length s) 12) 10 0 and_then refuse_if (header_wrong L s) 11 0) (counts_wrong L s) 12 0).0 last.0 in
      let second = (and_then-refuse_if (refuse_if (ltb (length s) 12) 10 0) (header_wrong L s) 11 0).0 third.0 in
      (ltb-false _ _ ((refuse_if_pass (ltb (length s) 12) 10 0).0 second.0), eqb-true _ _ (not-false _ last.1))
