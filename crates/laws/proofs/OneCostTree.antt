-- A search of which one hop has another cost: the nodes of its entries and its tally are the same, and so is each entry behind the leg of that hop, since no other
-- leg leaves that domain; the whole tree where the hop is on no leg. From the law of later legs.
use mathlib.Core.Path.{◌≡◌, refl, sym, ap, ◌∙◌}
use mathlib.Core.Bool.{Bool, true, false}
use mathlib.Core.List.{List, [], ◌∷◌, map}
use Prim.Native.Nat.{ℕ, zero, suc, ◌≤◌, ◌<◌}
use native.Mathlib.Omega.{arith}
use lib.ListN.{length, get_or, set, length-map, get_or-map}
use Rattle.model.specs.declared.Hop.{Hop}
use Rattle.model.specs.Lists.{keep_if, keep, all_different, different, count_from, sum}
use Rattle.model.specs.Profile.{between, entry_nodes}
use Rattle.model.specs.Sequence.{Stop, domains_of}
use Rattle.model.specs.Request.{Search}
use Rattle.model.specs.Path.{Leg, legs, no_leg, leg_at}
use Rattle.model.specs.Tree.{entries_at, entry, tree, tally}
use Rattle.laws.proofs.Tests.{refuted}
use Rattle.laws.proofs.Picks.{each_agree}
use Rattle.laws.proofs.HopKeys.{between-both}
use Rattle.laws.proofs.SequenceDomains.{different-places}
use Rattle.laws.proofs.TallyMost.{from_of, legs_leave}
use Rattle.laws.proofs.LaterLegs.{over_hops, records_of, later_entry}
use Rattle.laws.proofs.OneCost.{at_cost}

-- ---- an element put in the place of another

module _ {A : Type 0} (p : A → Bool) where
  -- where both fail a test
  keep_put_off : (xs : List A) (k : ℕ) (y d : A) → p y ≡ false → p (get_or xs k d) ≡ false → keep p (set xs k y) ≡ keep p xs
  unfolding keep
  keep_put_off [] k y d f g = refl
  keep_put_off (x ∷ xs) zero y d f g = ap (λ (b : Bool). keep_if b y (keep p xs)) f ∙ sym (ap (λ (b : Bool). keep_if b x (keep p xs)) g)
  keep_put_off (x ∷ xs) (suc k) y d f g = ap (keep_if (p x) x) (keep_put_off xs k y d f g)

module _ {A B : Type 0} (p : A → Bool) (f : A → B) where
  -- where neither a test nor f can tell the two apart
  pub map-keep-put
      : (xs : List A) (k : ℕ) (y d : A) → p y ≡ p (get_or xs k d) → f y ≡ f (get_or xs k d) → map f (keep p (set xs k y)) ≡ map f (keep p xs)
  unfolding keep
  map-keep-put [] k y d e g = refl
  map-keep-put (x ∷ xs) zero y d e g = ap (λ (b : Bool). map f (keep_if b y (keep p xs))) e ∙ go (p x)
    where
      go : (b : Bool) → map f (keep_if b y (keep p xs)) ≡ map f (keep_if b x (keep p xs))
      go true = ap (λ (z : B). z ∷ map f (keep p xs)) g
      go false = refl
  map-keep-put (x ∷ xs) (suc k) y d e g = go (p x) (map-keep-put xs k y d e g)
    where
      go
          : (b : Bool) → map f (keep p (set xs k y)) ≡ map f (keep p xs)
          → map f (keep_if b x (keep p (set xs k y))) ≡ map f (keep_if b x (keep p xs))
      go true r = ap (λ (zs : List B). f x ∷ zs) r
      go false r = r

-- ---- the hop k of a search, and the search where its cost is c

abbrev pub at_cost_in : List Hop → ℕ → Hop → ℕ → List Hop
at_cost_in hs k h c = set hs k (at_cost h c)

abbrev head_of : Hop → ℕ
head_of h = h.head.0

-- the domain that a leg leaves
leg_from : (sequence : List Stop) (i : ℕ) → get_or (domains_of sequence) i 0 ≡ (get_or (legs sequence) i no_leg).from
leg_from sequence i = ap (λ (ds : List ℕ). get_or ds i 0) (sym (legs_leave sequence)) ∙ get_or-map from_of (legs sequence) i no_leg

module _ (hs : List Hop) (k : ℕ) (h : Hop) (is : get_or hs k h ≡ h) (c : ℕ) where
  -- a leg that isn't the hop's has the same records
  pub other-leg : (leg : Leg) → between leg.from leg.to h ≡ false → records_of leg (at_cost_in hs k h c) ≡ records_of leg hs
  other-leg leg f = keep_put_off (between leg.from leg.to) hs k (at_cost h c) h f (ap (between leg.from leg.to) is ∙ f)

  same_heads : (d e : ℕ) → map head_of (keep (between d e) (at_cost_in hs k h c)) ≡ map head_of (keep (between d e) hs)
  same_heads d e = map-keep-put (between d e) head_of hs k (at_cost h c) h (sym (ap (between d e) is)) (sym (ap head_of is))

  pub same-entry_nodes : (d e : ℕ) → entry_nodes d e (at_cost_in hs k h c) ≡ entry_nodes d e hs
  unfolding entry_nodes
  same-entry_nodes d e = ap different (same_heads d e)

  pub same_count : (d e : ℕ) → length (keep (between d e) (at_cost_in hs k h c)) ≡ length (keep (between d e) hs)
  same_count d e =
      sym (length-map (keep (between d e) (at_cost_in hs k h c)) head_of) ∙ ap length (same_heads d e) ∙ length-map (keep (between d e) hs) head_of

module _ (S : Search) (k : ℕ) (h : Hop) (is : get_or S.hops k h ≡ h) (c : ℕ) where
  abbrev pub changed : Search
  changed = over_hops S (at_cost_in S.hops k h c)

  pub same_nodes : (i : ℕ) → entries_at changed i ≡ entries_at S i
  unfolding entries_at
  same_nodes zero = refl
  same_nodes (suc i) = same-entry_nodes S.hops k h is c (leg_at S i).from (leg_at S i).to

  pub same-tally : tally changed ≡ tally S
  unfolding tally
  same-tally = λ j. sum (map (λ (leg : Leg). same_count S.hops k h is c leg.from leg.to j) (legs S.sequence))

  -- no leg from place j on is the hop's
  pub off-entry
      : (j : ℕ) → ((i : ℕ) → j ≤ i → i < length S.sequence → between (leg_at S i).from (leg_at S i).to h ≡ false)
      → (i a : ℕ) → j ≤ i → entry changed i a ≡ entry S i a
  off-entry j off = later_entry S (at_cost_in S.hops k h c) j (λ i l u. other-leg S.hops k h is c (leg_at S i) (off i l u))

  -- behind the hop's own leg
  pub behind-entry
      : all_different (domains_of S.sequence) ≡ true → (j : ℕ) → between (leg_at S j).from (leg_at S j).to h ≡ true
      → (i a : ℕ) → j < i → entry changed i a ≡ entry S i a
  behind-entry different j on =
      off-entry (suc j)
      (λ i l u.
      refuted (between (leg_at S i).from (leg_at S i).to h)
      (λ t.
      different-places (domains_of S.sequence) different j i l (omega (arith, length-map S.sequence (λ (p : Stop). p.domain)))
      (leg_from S.sequence j
      ∙ sym (between-both (leg_at S j).from (leg_at S j).to h on).0
      ∙ (between-both (leg_at S i).from (leg_at S i).to h t).0
      ∙ sym (leg_from S.sequence i))))

  -- on no leg
  pub off-tree : ((i : ℕ) → i < length S.sequence → between (leg_at S i).from (leg_at S i).to h ≡ false) → tree changed ≡ tree S
  unfolding tree
  off-tree off =
      each_agree (λ (i : ℕ). map (entry changed i) (entries_at changed i)) (λ (i : ℕ). map (entry S i) (entries_at S i)) (count_from 0 (length S.sequence))
      (λ i m j. map (λ (a : ℕ). off-entry 0 (λ n l. off n) i a (omega arith) j) (same_nodes i j))
