-- The entry nodes of one pair of domains, noted as the records pass: what is noted are the different heads of the pair's records so far, each once, so
-- their number is that of the definition; and a record of another pair starts afresh.
use mathlib.Core.Path.{◌≡◌, refl, sym, ap, ap₂, subst, subst₂, ◌∙◌}
use mathlib.Core.Bool.{Bool, true, false, cond, ◌&&◌, ◌||◌, true≢false}
use mathlib.Core.List.{List, [], ◌∷◌, ◌++◌, map}
use Prim.Native.Nat.{ℕ, zero, suc, ◌+◌, ◌<◌, ◌≤◌}
use native.Mathlib.Nat.{suc-ne-zero}
use native.Mathlib.Numerals.{add-one}
use native.Mathlib.Omega.{arith}
use borrow.Author.Tests.{eqb-true, eq-eqb, ne_eqb}
use lib.ListN.{length, get_or, take}
use lib.Dec.{eqb, ltb}
use Rattle.model.specs.declared.Hop.{Hop}
use Rattle.model.specs.Lists.{keep, keep_if, among, different}
use Rattle.model.specs.Profile.{Layout, hop_count, hop_at, hops, hop_misordered, between, entry_nodes, crowded}
use Rattle.laws.proofs.Different.{one_more, different-count}
use Rattle.profile_records.specs.Layout.{HopsWithin}
use Rattle.laws.proofs.Records.{take-hops}
use Rattle.profile_check.proofs.Padding.{snoc_among}
use Rattle.profile_check.proofs.Pairs.{first_of_pair}
use Rattle.laws.proofs.Tests.{and_both}

abbrev heads : List Hop → List ℕ
heads hs = map (λ (h : Hop). h.head.0) hs

-- the heads that the first k records bring for a pair
abbrev pub seen : Layout → List ℕ → ℕ → ℕ → ℕ → List ℕ
seen L s d e k = heads (keep (between d e) (take k (hops L s)))

keep_front : (u : Bool) (x : Hop) (more fewer : List Hop) (rest : List ℕ) → heads more ≡ heads fewer ++ rest
    → heads (keep_if u x more) ≡ heads (keep_if u x fewer) ++ rest
keep_front true x more fewer rest e = ap (λ (l : List ℕ). x.head.0 ∷ l) e
keep_front false x more fewer rest e = e

keep_snoc : (p : Hop → Bool) (hs : List Hop) (h : Hop) (t : Bool) → p h ≡ t → heads (keep p (hs ++ (h ∷ []))) ≡ heads (keep p hs) ++ cond t (h.head.0 ∷ []) []
unfolding keep
keep_snoc p [] h true e = rw e refl
keep_snoc p [] h false e = rw e refl
keep_snoc p (x ∷ hs) h t e = keep_front (p x) x (keep p (hs ++ (h ∷ []))) (keep p hs) (cond t (h.head.0 ∷ []) []) (keep_snoc p hs h t e)

-- what is noted of a pair after the first i records: the heads seen, and how many they are
pub record Noted (L : Layout) (s : List ℕ) (d e i : ℕ) (noted : List ℕ) (count : ℕ) : Type 0 where
  pub same : (y : ℕ) → among y (take count noted) ≡ among y (seen L s d e i)
  pub counted : count ≡ length (different (seen L s d e i))

module _ (L : Layout) (s : List ℕ) where
  seen_next : (d e i : ℕ) (t : Bool) → i < hop_count s → between d e (hop_at L s i) ≡ t → seen L s d e (suc i) ≡ seen L s d e i ++ cond t ((hop_at L s i).head.0 ∷ []) []
  seen_next d e i t h b =
      ap (λ (hs : List Hop). heads (keep (between d e) hs)) (take-hops L s i h) ∙ keep_snoc (between d e) (take i (hops L s)) (hop_at L s i) t b

  seen_none : (d e i : ℕ) → i ≤ hop_count s → ((j : ℕ) → j < i → between d e (hop_at L s j) ≡ false) → seen L s d e i ≡ []
  unfolding keep
  seen_none d e zero h none = refl
  seen_none d e (suc i) h none =
      seen_next d e i false h (none i (omega arith)) ∙ (rw (seen_none d e i (omega arith) (λ (j : ℕ) (hj : j < i). none j (omega arith))) refl)

  noted_none : (d e i : ℕ) (noted : List ℕ) → seen L s d e i ≡ [] → Noted L s d e i noted 0
  unfolding different
  noted_none d e i noted h = record { same = λ (y : ℕ). sym (ap (among y) h); counted = sym (ap (λ (l : List ℕ). length (different l)) h) }

  own_pair : (i : ℕ) → between (hop_at L s i).from.0 (hop_at L s i).to.0 (hop_at L s i) ≡ true
  own_pair i = rw (eq-eqb (hop_at L s i).from.0 (hop_at L s i).from.0 refl) (eq-eqb (hop_at L s i).to.0 (hop_at L s i).to.0 refl)

  seen_own : (i : ℕ) → i < hop_count s
      → seen L s (hop_at L s i).from.0 (hop_at L s i).to.0 (suc i) ≡ seen L s (hop_at L s i).from.0 (hop_at L s i).to.0 i ++ ((hop_at L s i).head.0 ∷ [])
  seen_own i h = seen_next (hop_at L s i).from.0 (hop_at L s i).to.0 i true h (own_pair i)

one_more_cond : (t : Bool) (n : ℕ) → one_more t n ≡ cond t n (n + 1)
one_more_cond true n = refl
one_more_cond false n = sym (add-one n)

-- ---- one record more of the pair

module _ (L : Layout) (s : List ℕ) (i : ℕ) (h : i < hop_count s) (noted : List ℕ) (count : ℕ) (n : Noted L s (hop_at L s i).from.0 (hop_at L s i).to.0 i noted count) where
  entered : length (entry_nodes (hop_at L s i).from.0 (hop_at L s i).to.0 (take (suc i) (hops L s)))
      ≡ cond (among (hop_at L s i).head.0 (take count noted)) count (count + 1)
  unfolding entry_nodes
  entered =
      ap (λ (l : List ℕ). length (different l)) (seen_own L s i h)
      ∙ different-count (seen L s (hop_at L s i).from.0 (hop_at L s i).to.0 i) (hop_at L s i).head.0
      ∙ ap₂ one_more (sym (n.same (hop_at L s i).head.0)) (sym n.counted)
      ∙ one_more_cond (among (hop_at L s i).head.0 (take count noted)) count

  pub crowded-number : ((hop_at L s i).from.0 ≡ (hop_at L s i).to.0 → ⊥) → crowded L s i ≡ ltb 16 (cond (among (hop_at L s i).head.0 (take count noted)) count (count + 1))
  unfolding crowded
  crowded-number apart = rw (ne_eqb (hop_at L s i).from.0 (hop_at L s i).to.0 apart, entered) refl

  pub noted_more : (new : List ℕ) (after : ℕ) → after ≡ cond (among (hop_at L s i).head.0 (take count noted)) count (count + 1)
      → ((y : ℕ) → among y (take after new) ≡ among y (take count noted) || eqb y (hop_at L s i).head.0)
      → Noted L s (hop_at L s i).from.0 (hop_at L s i).to.0 (suc i) new after
  unfolding entry_nodes
  noted_more new after number adds =
      record {
        same =
            λ (y : ℕ).
            adds y
            ∙ ap (λ (t : Bool). t || eqb y (hop_at L s i).head.0) (n.same y)
            ∙ sym (snoc_among y (hop_at L s i).head.0 (seen L s (hop_at L s i).from.0 (hop_at L s i).to.0 i))
            ∙ sym (ap (among y) (seen_own L s i h));
        counted = number ∙ sym entered;
      }

pub within-domain : (L : Layout) (s : List ℕ) (i : ℕ) → (hop_at L s i).from.0 ≡ (hop_at L s i).to.0 → crowded L s i ≡ false
unfolding crowded
within-domain L s i e = rw (eq-eqb (hop_at L s i).from.0 (hop_at L s i).to.0 e) refl

-- ---- from one record to the next

-- what a pass over the records holds before record i: the pair (d, e) of the record before it, and what is noted of that pair where it goes between domains
pub record Passing (L : Layout) (s : List ℕ) (d e i : ℕ) (noted : List ℕ) (count : ℕ) : Type 0 where
  pub holds : (d ≡ e → ⊥) → Noted L s d e i noted count
  pub last : (j : ℕ) → i ≡ suc j → (d ≡ (hop_at L s j).from.0) × (e ≡ (hop_at L s j).to.0)

pub passing_start : (L : Layout) (s : List ℕ) (d e : ℕ) (noted : List ℕ) → Passing L s d e 0 noted 0
unfolding keep
passing_start L s d e noted = record { holds = λ apart. noted_none L s d e 0 noted refl; last = λ (j : ℕ) (h : 0 ≡ suc j). absurd (suc-ne-zero j (sym h)) }

module _
    (L : Layout)
    (s : List ℕ)
    (bytes : (i : ℕ) → get_or s i 0 < 256)
    (within : HopsWithin L s (hop_count s))
    (ordered : (k : ℕ) → k < hop_count s → hop_misordered L s k ≡ false)
    (d e i : ℕ)
    (h : i < hop_count s)
    (noted : List ℕ)
    (count : ℕ)
    (p : Passing L s d e i noted count) where
  first_here : (eqb (hop_at L s i).from.0 d && eqb (hop_at L s i).to.0 e ≡ false) → seen L s (hop_at L s i).from.0 (hop_at L s i).to.0 i ≡ []
  first_here other = go i refl
    where
      go : (k : ℕ) → i ≡ k → seen L s (hop_at L s i).from.0 (hop_at L s i).to.0 i ≡ []
      go zero q =
          seen_none L s (hop_at L s i).from.0 (hop_at L s i).to.0 i (omega arith) (λ (j : ℕ) (hj : j < i). let none : ⊥ = omega arith in absurd none)
      go (suc j) q =
          subst (λ (k : ℕ). seen L s (hop_at L s k).from.0 (hop_at L s k).to.0 k ≡ []) (sym q)
          (seen_none L s (hop_at L s (suc j)).from.0 (hop_at L s (suc j)).to.0 (suc j) (omega arith)
          (first_of_pair L s (hop_count s) bytes within ordered j (omega arith)
          (λ (b : between (hop_at L s (suc j)).from.0 (hop_at L s (suc j)).to.0 (hop_at L s j) ≡ true).
          let parts = and_both (eqb (hop_at L s j).from.0 (hop_at L s (suc j)).from.0) (eqb (hop_at L s j).to.0 (hop_at L s (suc j)).to.0) b in
          let before = p.last j q in
          let from : (hop_at L s i).from.0 ≡ d =
          ap (λ (k : ℕ). (hop_at L s k).from.0) q ∙ sym (eqb-true (hop_at L s j).from.0 (hop_at L s (suc j)).from.0 parts.0) ∙ sym before.0 in
          let to : (hop_at L s i).to.0 ≡ e =
          ap (λ (k : ℕ). (hop_at L s k).to.0) q ∙ sym (eqb-true (hop_at L s j).to.0 (hop_at L s (suc j)).to.0 parts.1) ∙ sym before.1 in
          true≢false (sym (rw (eq-eqb (hop_at L s i).from.0 d from) (eq-eqb (hop_at L s i).to.0 e to)) ∙ other))))

  -- the count kept where the pair is the same, and 0 where it is another
  pub carry : ((hop_at L s i).from.0 ≡ (hop_at L s i).to.0 → ⊥)
      → Noted L s (hop_at L s i).from.0 (hop_at L s i).to.0 i noted (cond (eqb (hop_at L s i).from.0 d && eqb (hop_at L s i).to.0 e) count 0)
  carry apart = go (eqb (hop_at L s i).from.0 d) (eqb (hop_at L s i).to.0 e) refl refl
    where
      go : (t u : Bool) → eqb (hop_at L s i).from.0 d ≡ t → eqb (hop_at L s i).to.0 e ≡ u → Noted L s (hop_at L s i).from.0 (hop_at L s i).to.0 i noted (cond (t && u) count 0)
      go true true q r =
          subst₂ (λ (x y : ℕ). Noted L s x y i noted count) (sym (eqb-true (hop_at L s i).from.0 d q)) (sym (eqb-true (hop_at L s i).to.0 e r))
          (p.holds (λ (same : d ≡ e). apart (eqb-true (hop_at L s i).from.0 d q ∙ same ∙ sym (eqb-true (hop_at L s i).to.0 e r))))
      go true false q r = noted_none L s (hop_at L s i).from.0 (hop_at L s i).to.0 i noted (first_here (rw (q, r) refl))
      go false u q r = noted_none L s (hop_at L s i).from.0 (hop_at L s i).to.0 i noted (first_here (rw q refl))

pub passing_next : (L : Layout) (s : List ℕ) (i : ℕ) (noted : List ℕ) (count : ℕ)
    → (((hop_at L s i).from.0 ≡ (hop_at L s i).to.0 → ⊥) → Noted L s (hop_at L s i).from.0 (hop_at L s i).to.0 (suc i) noted count)
    → Passing L s (hop_at L s i).from.0 (hop_at L s i).to.0 (i + 1) noted count
passing_next L s i noted count n =
    record {
      holds = λ (apart : (hop_at L s i).from.0 ≡ (hop_at L s i).to.0 → ⊥). rw (add-one i) (n apart);
      last =
          λ (j : ℕ) (q : i + 1 ≡ suc j).
          let same : i ≡ j = omega arith in
          (ap (λ (k : ℕ). (hop_at L s k).from.0) same, ap (λ (k : ℕ). (hop_at L s k).to.0) same);
    }
