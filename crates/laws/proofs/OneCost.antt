-- A profile of which one hop record's cost is written anew: its hop records are the same but for that cost, its domains and counts are the same, and with a cost in
-- range it is still accepted. Each field that is read lies apart from the cost's four bytes, or is that cost.
use mathlib.Core.Path.{◌≡◌, refl, sym, ap, ◌∙◌}
use mathlib.Core.Logic.{◌⊎◌, inl, inr, ⊎_elim}
use mathlib.Core.Bool.{true, false}
use mathlib.Core.List.{List, ◌++◌}
use Prim.Native.Nat.{ℕ, ◌+◌, ◌*◌, ◌≤◌, ◌<◌}
use native.Mathlib.Nat.{add-zero, mul-suc, mul-le-mul_left, eq-or-lt_of_le}
use native.Mathlib.Omega.{arith}
use lib.ListN.{length, get_or, drop, set, length-set}
use lib.Seq.{paste, length-paste, take_all, get_or-set_same, get_or-set_other, ext_get_or}
use lib.Dec.{eqb, ltb}
use lib.Ieee.{binary32, of_bits}
use borrow.Author.Tests.{ltb-true, ltb-false, eqb-true, eqb-false}
use Rattle.model.specs.declared.Hop.{Hop}
use Rattle.model.specs.Bytes.{number, bytes_of, part}
use Rattle.model.specs.Profile.{Layout, layout_in, domain_count, hop_count, domain_start, hop_start, domain_at, domains, cost_of_hop, other_cost, bandwidth_bits, hop_at, hops}
use Rattle.laws.proofs.Tests.{decide}
use Rattle.laws.proofs.BigEndian.{number-drop}
use Rattle.laws.proofs.Numbers.{number-bytes_of, length-bytes_of}
use Rattle.laws.proofs.Records.{length-domains, domain_at_lem, length-hops, hop_at_lem}
use Rattle.laws.proofs.Rewritten.{rewritten_there, byte_stands, number_stands, part_stands}

-- a hop record's cost lies in the record, behind what it is ordered by, apart from its bandwidth and, where that is another, from its other cost
pub record CostApart (L : Layout) : Type 0 where
  pub fields : 20 ≤ L.hop_size
  pub inside : L.cost_at + 4 ≤ L.hop_size
  pub behind-key : 12 ≤ L.cost_at
  pub beside-bandwidth : (L.cost_at + 4 ≤ 16) ⊎ (20 ≤ L.cost_at)
  pub other-inside : L.other_at + 4 ≤ L.hop_size
  pub beside-other : (L.other_at ≡ L.cost_at) ⊎ ((L.cost_at + 4 ≤ L.other_at) ⊎ (L.other_at + 4 ≤ L.cost_at))

-- as every layout has it that a profile's bytes say
pub layout-apart : (s : List ℕ) → CostApart (layout_in s)
unfolding layout_in
layout-apart s =
    record {
      fields = omega arith;
      inside = omega arith;
      behind-key = omega arith;
      beside-bandwidth = inl (omega arith);
      other-inside = omega arith;
      beside-other = inl refl;
    }

-- a profile with the cost c at hop record k
abbrev pub with_cost : Layout → List ℕ → ℕ → ℕ → List ℕ
with_cost L s k c = paste s (hop_start L s k + L.cost_at) (bytes_of 4 c) 4

-- a hop with another cost
abbrev pub at_cost : Hop → ℕ → Hop
at_cost h c = record { from = h.from; to = h.to; tail = h.tail; head = h.head; cost = c; bandwidth = h.bandwidth }

pub same_or_not : (i k : ℕ) → (i ≡ k) ⊎ (i ≡ k → ⊥)
same_or_not i k = ⊎_elim (λ (t : eqb i k ≡ true). inl (eqb-true i k t)) (λ (f : eqb i k ≡ false). inr (eqb-false i k f)) (decide (eqb i k))

module _
    (L : Layout) (room : CostApart L) (s : List ℕ) (sized : length s ≡ hop_start L s (hop_count s)) (k c : ℕ) (recorded : k < hop_count s)
  where
    abbrev at : ℕ
    at = hop_start L s k + L.cost_at

    -- a record ends where a later one starts, or before
    in_turn_lem : (i j : ℕ) → i < j → hop_start L s i + L.hop_size ≤ hop_start L s j
    in_turn_lem i j h = omega (arith, mul-suc L.hop_size i, mul-le-mul_left L.hop_size h)

    fits : at + 4 ≤ length s
    fits = omega (arith, in_turn_lem k (hop_count s) recorded, room.inside)

    enough : 4 ≤ length (bytes_of 4 c)
    enough = omega (arith, length-bytes_of 4 c)

    pub same_length : length (with_cost L s k c) ≡ length s
    same_length = length-paste s at (bytes_of 4 c) 4 fits enough

    -- ---- what lies before the hop records

    pub byte_before : (p : ℕ) → p < 12 + 20 * domain_count s → get_or (with_cost L s k c) p 0 ≡ get_or s p 0
    byte_before p h = byte_stands s (bytes_of 4 c) at 4 fits enough p (inl (omega arith))

    pub number-before : (w p : ℕ) → p + w ≤ 12 + 20 * domain_count s → number w (with_cost L s k c) p ≡ number w s p
    number-before w p h = number_stands s (bytes_of 4 c) at 4 fits enough w p (inl (omega arith))

    pub part-before : (w p : ℕ) → p + w ≤ 12 + 20 * domain_count s → part (with_cost L s k c) p w ≡ part s p w
    part-before w p h = part_stands s (bytes_of 4 c) at 4 fits enough w p (inl (omega arith))

    pub same-domain-count : domain_count (with_cost L s k c) ≡ domain_count s
    same-domain-count = number-before 2 6 (omega arith)

    pub same-hop-count : hop_count (with_cost L s k c) ≡ hop_count s
    same-hop-count = number-before 2 8 (omega arith)

    pub same-domain : (i : ℕ) → i < domain_count s → domain_at (with_cost L s k c) i ≡ domain_at s i
    unfolding domain_at
    same-domain i h =
        λ j.
        record {
          asn = number-before 4 (domain_start i) (omega arith) j;
          kind = byte_before (domain_start i + 4) (omega arith) j;
          length = byte_before (domain_start i + 5) (omega arith) j;
          area = part-before 13 (domain_start i + 6) (omega arith) j;
        }

    pub same-domains : domains (with_cost L s k c) ≡ domains s
    same-domains =
        let long : length (domains (with_cost L s k c)) ≡ domain_count s = length-domains (with_cost L s k c) ∙ same-domain-count in
        ext_get_or (domain_at s 0) (domains (with_cost L s k c)) (domains s) (long ∙ sym (length-domains s))
        (λ i h.
        let inside : i < domain_count s = omega arith in
        domain_at_lem (with_cost L s k c) i (domain_at s 0) (omega (arith, same-domain-count))
        ∙ same-domain i inside
        ∙ sym (domain_at_lem s i (domain_at s 0) inside))

    -- ---- the hop records

    pub same_start : (i : ℕ) → hop_start L (with_cost L s k c) i ≡ hop_start L s i
    same_start i = ap (λ (n : ℕ). 12 + 20 * n + L.hop_size * i) same-domain-count

    -- w bytes at p lie apart from the cost that is written, where they lie in another record, or apart from it in its own
    apart
        : (i p w : ℕ) → hop_start L s i ≤ p → p + w ≤ hop_start L s i + L.hop_size
        → (i ≡ k → (p + w ≤ at) ⊎ (at + 4 ≤ p))
        → (p + w ≤ at) ⊎ (at + 4 ≤ p)
    apart i p w l u own =
        ⊎_elim
        (λ (t : ltb i k ≡ true). inl (omega (arith, in_turn_lem i k (ltb-true i k t))))
        (λ (f : ltb i k ≡ false).
        ⊎_elim
        (λ (e : k ≡ i). own (sym e))
        (λ (h : k < i). inr (omega (arith, in_turn_lem k i h, room.inside)))
        (eq-or-lt_of_le (ltb-false i k f)))
        (decide (ltb i k))

    -- what a record is ordered by
    in_key : (i p w : ℕ) → hop_start L s i ≤ p → p + w ≤ hop_start L s i + 12 → (p + w ≤ at) ⊎ (at + 4 ≤ p)
    in_key i p w l u =
        apart i p w l (omega (arith, room.fields))
        (λ (e : i ≡ k). inl (let start : hop_start L s i ≡ hop_start L s k = ap (hop_start L s) e in omega (arith, room.behind-key)))

    -- four bytes of a record apart from its cost
    in_field : (i f : ℕ) → f + 4 ≤ L.hop_size → (L.cost_at + 4 ≤ f) ⊎ (f + 4 ≤ L.cost_at) → (hop_start L s i + f + 4 ≤ at) ⊎ (at + 4 ≤ hop_start L s i + f)
    in_field i f inside beside =
        apart i (hop_start L s i + f) 4 (omega arith) (omega arith)
        (λ (e : i ≡ k).
        let start : hop_start L s i ≡ hop_start L s k = ap (hop_start L s) e in
        ⊎_elim (λ (h : L.cost_at + 4 ≤ f). inr (omega arith)) (λ (h : f + 4 ≤ L.cost_at). inl (omega arith)) beside)

    -- a field wherever it starts in its record, read where the record now starts
    field : (i f w : ℕ) → (hop_start L s i + f + w ≤ at) ⊎ (at + 4 ≤ hop_start L s i + f)
        → number w (with_cost L s k c) (hop_start L (with_cost L s k c) i + f) ≡ number w s (hop_start L s i + f)
    field i f w h = ap (λ (p : ℕ). number w (with_cost L s k c) (p + f)) (same_start i) ∙ number_stands s (bytes_of 4 c) at 4 fits enough w (hop_start L s i + f) h

    key_field : (i f w : ℕ) → f + w ≤ 12 → number w (with_cost L s k c) (hop_start L (with_cost L s k c) i + f) ≡ number w s (hop_start L s i + f)
    key_field i f w h = field i f w (in_key i (hop_start L s i + f) w (omega arith) (omega arith))

    pub same_key : (i : ℕ) → part (with_cost L s k c) (hop_start L (with_cost L s k c) i) 12 ≡ part s (hop_start L s i) 12
    same_key i =
        ap (λ (p : ℕ). part (with_cost L s k c) p 12) (same_start i)
        ∙ part_stands s (bytes_of 4 c) at 4 fits enough 12 (hop_start L s i) (in_key i (hop_start L s i) 12 (omega arith) (omega arith))

    pub same-bandwidth : (i : ℕ) → bandwidth_bits L (with_cost L s k c) i ≡ bandwidth_bits L s i
    same-bandwidth i = field i 16 4 (in_field i 16 (omega (arith, room.fields)) room.beside-bandwidth)

    -- the cost that doesn't count is the one that does, or stands
    pub same-other
        : (i : ℕ) → (other_cost L (with_cost L s k c) i ≡ cost_of_hop L (with_cost L s k c) i) ⊎ (other_cost L (with_cost L s k c) i ≡ other_cost L s i)
    same-other i =
        ⊎_elim
        (λ (e : L.other_at ≡ L.cost_at). inl (ap (λ (p : ℕ). number 4 (with_cost L s k c) (hop_start L (with_cost L s k c) i + p)) e))
        (λ (h : (L.cost_at + 4 ≤ L.other_at) ⊎ (L.other_at + 4 ≤ L.cost_at)). inr (field i L.other_at 4 (in_field i L.other_at room.other-inside h)))
        room.beside-other

    -- every record but for its cost
    pub same-hop : (i : ℕ) → hop_at L (with_cost L s k c) i ≡ at_cost (hop_at L s i) (cost_of_hop L (with_cost L s k c) i)
    unfolding hop_at
    same-hop i =
        let from : number 2 (with_cost L s k c) (hop_start L (with_cost L s k c) i) ≡ number 2 s (hop_start L s i) =
        ap (number 2 (with_cost L s k c)) (sym (add-zero _)) ∙ key_field i 0 2 (omega arith) ∙ ap (number 2 s) (add-zero _) in
        λ j.
        record {
          from = record { 0 = from j };
          to = record { 0 = key_field i 2 2 (omega arith) j };
          tail = record { 0 = key_field i 4 4 (omega arith) j };
          head = record { 0 = key_field i 8 4 (omega arith) j };
          cost = cost_of_hop L (with_cost L s k c) i;
          bandwidth = of_bits binary32 (same-bandwidth i j);
        }

    pub other-cost : (i : ℕ) → (i ≡ k → ⊥) → cost_of_hop L (with_cost L s k c) i ≡ cost_of_hop L s i
    other-cost i other =
        field i L.cost_at 4 (apart i (hop_start L s i + L.cost_at) 4 (omega arith) (omega (arith, room.inside)) (λ e. absurd (other e)))

    pub new_cost : c < 4294967296 → cost_of_hop L (with_cost L s k c) k ≡ c
    new_cost small =
        ap (λ (p : ℕ). number 4 (with_cost L s k c) (p + L.cost_at)) (same_start k)
        ∙ ap (number 4 (with_cost L s k c)) (sym (add-zero at))
        ∙ sym (number-drop 4 (with_cost L s k c) at 0)
        ∙ ap (λ (l : List ℕ). number 4 l 0) (rewritten_there s (bytes_of 4 c) at 4 fits enough)
        ∙ ap (λ (l : List ℕ). number 4 (l ++ drop (at + 4) s) 0) (take_all 4 (bytes_of 4 c) (omega (arith, length-bytes_of 4 c)))
        ∙ number-bytes_of 4 c (drop (at + 4) s) (omega arith)

    pub other-hop : (i : ℕ) → (i ≡ k → ⊥) → hop_at L (with_cost L s k c) i ≡ hop_at L s i
    unfolding hop_at
    other-hop i other = same-hop i ∙ ap (at_cost (hop_at L s i)) (other-cost i other)

    -- ---- all hop records: the one has the new cost, the others stand

    pub one_cost : c < 4294967296 → hops L (with_cost L s k c) ≡ set (hops L s) k (at_cost (hop_at L s k) c)
    one_cost small =
        let long : length (hops L (with_cost L s k c)) ≡ hop_count s = length-hops L (with_cost L s k c) ∙ same-hop-count in
        let changed : List Hop = set (hops L s) k (at_cost (hop_at L s k) c) in
        let d : Hop = hop_at L s k in
        ext_get_or d (hops L (with_cost L s k c)) changed
        (long ∙ sym (length-set (hops L s) k (at_cost d c) ∙ length-hops L s))
        (λ i h.
        let inside : i < hop_count s = omega arith in
        hop_at_lem L (with_cost L s k c) i d (omega (arith, same-hop-count))
        ∙ ⊎_elim (λ (e : i ≡ k). here i e) (λ (o : i ≡ k → ⊥). other-hop i o ∙ sym (get_or-set_other (hops L s) k i (at_cost d c) d o ∙ hop_at_lem L s i d inside)) (same_or_not i k))
      where
        here : (i : ℕ) → i ≡ k → hop_at L (with_cost L s k c) i ≡ get_or (set (hops L s) k (at_cost (hop_at L s k) c)) i (hop_at L s k)
        here i e =
            ap (hop_at L (with_cost L s k c)) e
            ∙ same-hop k
            ∙ ap (at_cost (hop_at L s k)) (new_cost small)
            ∙ sym (get_or-set_same (hops L s) k (at_cost (hop_at L s k) c) (hop_at L s k) (omega (arith, length-hops L s)))
            ∙ ap (λ (j : ℕ). get_or (set (hops L s) k (at_cost (hop_at L s k) c)) j (hop_at L s k)) (sym e)
