-- An accepted profile of which one hop record's cost is written anew, in range, is accepted: every check but that of the cost reads what stands. By the facts
-- that the checks stand for.
use mathlib.Core.Path.{◌≡◌, refl, sym, ap, subst, ◌∙◌}
use mathlib.Core.Logic.{⊎_elim}
use mathlib.Core.Bool.{true, false, not, ◌&&◌, ◌||◌}
use mathlib.Core.List.{List}
use Prim.Native.Nat.{ℕ, zero, suc, ◌+◌, ◌≤◌, ◌<◌}
use native.Mathlib.Omega.{arith}
use lib.ListN.{length, get_or, take, drop}
use lib.Seq.{take-set-le, take-set-lt, get_or-take}
use lib.Dec.{eqb, ltb}
use borrow.Author.Tests.{ltb-true, ltb-false}
use Rattle.model.specs.Verdict.{Pass}
use Rattle.model.specs.declared.Domain.{Domain}
use Rattle.model.specs.declared.Hop.{Hop}
use Rattle.model.specs.Bytes.{all_zero}
use Rattle.model.specs.Lists.{below}
use Rattle.model.specs.Reserved.{as_ranges, address_ranges, misplaced, nobodys}
use Rattle.model.specs.Profile.{Layout, class_of, domain_count, hop_count, domain_start, hop_start, area_length_fits, domain_misordered, other_cost, hop_at, hops, hop_misordered, entry_nodes, crowded, profile_verdict}
use Rattle.laws.proofs.Tests.{decide}
use Rattle.laws.proofs.Records.{hop_at_lem}
use Rattle.laws.proofs.Accepted.{AcceptedDomain, AcceptedHop, AcceptedProfile, accepted, accepts}
use Rattle.laws.proofs.OneCost.{CostApart, with_cost, at_cost, same_length, byte_before, number-before, part-before, same-domain-count, same-hop-count, same-domain, same_start, same_key, same-bandwidth, same-other, same-hop, new_cost, other-hop, same_or_not, one_cost}
use Rattle.laws.proofs.OneCostTree.{same-entry_nodes}

module _
    (L : Layout) (room : CostApart L) (s : List ℕ) (a : AcceptedProfile L s) (k c : ℕ) (recorded : k < hop_count s)
    (in_range_lem : c ≤ L.most_cost) (small : c < 4294967296)
  where
    abbrev s' : List ℕ
    s' = with_cost L s k c

    same_class : class_of s' ≡ class_of s
    same_class = byte_before L room s a.sized k c recorded 5 (omega arith)

    -- ---- the domain records

    same-order : (i : ℕ) → i < domain_count s → domain_misordered s' i ≡ domain_misordered s i
    unfolding domain_misordered
    same-order zero h = refl
    same-order (suc i) h =
        let one = part-before L room s a.sized k c recorded 20 (domain_start i) (omega arith) in
        let two = part-before L room s a.sized k c recorded 20 (domain_start (suc i)) (omega arith) in
        let d = same-domain L room s a.sized k c recorded i (omega arith) in
        let e = same-domain L room s a.sized k c recorded (suc i) h in
        λ j. not (below (one j) (two j)) || (eqb (d j).kind 0 && eqb (d j).asn (e j).asn)

    domain_stands : (i : ℕ) → i < domain_count s → AcceptedDomain s' i
    domain_stands i h =
        let d = a.domain i h in
        let e = same-domain L room s a.sized k c recorded i h in
        record {
          area_fits = ap (λ (x : Domain). area_length_fits x.kind x.length) e ∙ d.area_fits;
          area_padded = ap (λ (x : Domain). all_zero (drop x.length x.area)) e ∙ d.area_padded;
          last_zero = byte_before L room s a.sized k c recorded (domain_start i + 19) (omega arith) ∙ d.last_zero;
          as_owned = ap (λ (x : Domain). nobodys x.asn) e ∙ d.as_owned;
          ordered = same-order i h ∙ d.ordered;
          as_placed = (λ j. misplaced (same_class j) as_ranges (e j).asn) ∙ d.as_placed;
        }

    -- ---- the hop records

    same-hop-order : (i : ℕ) → hop_misordered L s' i ≡ hop_misordered L s i
    unfolding hop_misordered
    same-hop-order zero = refl
    same-hop-order (suc i) =
        λ j. not (below (same_key L room s a.sized k c recorded i j) (same_key L room s a.sized k c recorded (suc i) j))

    cost_in_range_lem : (i : ℕ) → i < hop_count s → (hop_at L s' i).cost ≤ L.most_cost
    unfolding hop_at
    cost_in_range_lem i h =
        ⊎_elim
        (λ (e : i ≡ k). let n = new_cost L room s a.sized k c recorded small in let m = ap (λ (x : ℕ). (hop_at L s' x).cost) e in omega arith)
        (λ (o : i ≡ k → ⊥). omega (arith, ap (λ (x : Hop). x.cost) (other-hop L room s a.sized k c recorded i o), (a.hop i h).cost_in_range))
        (same_or_not i k)

    other_in_range_lem : (i : ℕ) → i < hop_count s → other_cost L s' i ≤ L.most_cost
    unfolding hop_at
    other_in_range_lem i h =
        ⊎_elim
        (λ e. subst (λ (n : ℕ). n ≤ L.most_cost) (sym e) (cost_in_range_lem i h))
        (λ e. subst (λ (n : ℕ). n ≤ L.most_cost) (sym e) (a.hop i h).other_in_range)
        (same-other L room s a.sized k c recorded i)

    -- the entry nodes of the first records
    same_first : (d e i : ℕ) → entry_nodes d e (take (suc i) (hops L s')) ≡ entry_nodes d e (take (suc i) (hops L s))
    same_first d e i =
        let h = hop_at L s k in
        let at : get_or (hops L s) k h ≡ h = hop_at_lem L s k h recorded in
        ap (λ (hs : List Hop). entry_nodes d e (take (suc i) hs)) (one_cost L room s a.sized k c recorded small)
        ∙ ⊎_elim
        (λ (t : ltb k (suc i) ≡ true).
        let l : k < suc i = ltb-true k (suc i) t in
        ap (entry_nodes d e) (take-set-lt (suc i) (hops L s) k (at_cost h c) l)
        ∙ same-entry_nodes (take (suc i) (hops L s)) k h (get_or-take (suc i) (hops L s) k h l ∙ at) c d e)
        (λ (f : ltb k (suc i) ≡ false). ap (entry_nodes d e) (take-set-le (suc i) (hops L s) k (at_cost h c) (ltb-false k (suc i) f)))
        (decide (ltb k (suc i)))

    same_crowd : (i : ℕ) → crowded L s' i ≡ crowded L s i
    unfolding crowded
    same_crowd i =
        let e = same-hop L room s a.sized k c recorded i in
        (λ j. not (eqb (e j).from.0 (e j).to.0) && ltb 16 (length (entry_nodes (e j).from.0 (e j).to.0 (take (suc i) (hops L s')))))
        ∙ ap (λ (ns : List ℕ). not (eqb (hop_at L s i).from.0 (hop_at L s i).to.0) && ltb 16 (length ns)) (same_first (hop_at L s i).from.0 (hop_at L s i).to.0 i)

    hop_stands : (i : ℕ) → i < hop_count s → AcceptedHop L s' i
    hop_stands i h =
        let x = a.hop i h in
        let e = same-hop L room s a.sized k c recorded i in
        let n = same-domain-count L room s a.sized k c recorded in
        record {
          from_exists = omega (arith, x.from_exists, ap (λ (g : Hop). g.from.0) e);
          to_exists = omega (arith, x.to_exists, ap (λ (g : Hop). g.to.0) e);
          cost_in_range = cost_in_range_lem i h;
          other_in_range = other_in_range_lem i h;
          bandwidth_in_range = omega (arith, x.bandwidth_in_range, same-bandwidth L room s a.sized k c recorded i);
          ordered = same-hop-order i ∙ x.ordered;
          tail_placed = (λ j. misplaced (same_class j) address_ranges (e j).tail.0) ∙ x.tail_placed;
          head_placed = (λ j. misplaced (same_class j) address_ranges (e j).head.0) ∙ x.head_placed;
          uncrowded = same_crowd i ∙ x.uncrowded;
        }

    pub cost-accepted : AcceptedProfile L s'
    cost-accepted =
        let n = same-domain-count L room s a.sized k c recorded in
        let m = same-hop-count L room s a.sized k c recorded in
        let l = same_length L room s a.sized k c recorded in
        record {
          has_header = omega (arith, a.has_header);
          mark = number-before L room s a.sized k c recorded 3 0 (omega arith) ∙ a.mark;
          version = number-before L room s a.sized k c recorded 2 3 (omega arith) ∙ a.version;
          header_zeros = number-before L room s a.sized k c recorded 2 10 (omega arith) ∙ a.header_zeros;
          class_in_range = omega (arith, a.class_in_range, same_class);
          some_domain = omega (arith, a.some_domain);
          most_domains = omega (arith, a.most_domains);
          most_hops = omega (arith, a.most_hops);
          sized = l ∙ a.sized ∙ sym (same_start L room s a.sized k c recorded (hop_count s') ∙ ap (hop_start L s) m);
          domain = λ i h. domain_stands i (omega arith);
          hop = λ i h. hop_stands i (omega arith);
        }

-- the law
pub cost-passes
    : (L : Layout) → CostApart L → (s : List ℕ) → profile_verdict L s ≡ Pass → (k c : ℕ) → k < hop_count s → c ≤ L.most_cost → c < 4294967296
    → profile_verdict L (with_cost L s k c) ≡ Pass
cost-passes L room s passed k c recorded in_range_lem small =
    accepts L (with_cost L s k c) (cost-accepted L room s (accepted L s passed) k c recorded in_range_lem small)
