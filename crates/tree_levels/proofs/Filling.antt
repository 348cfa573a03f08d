-- What `lay_out` has filled after i legs: the first places' addresses, where these places start, the legs' hop records and their number. It starts with the source, grows by
-- one place with each leg, and ends with the destination.
use Prim.Native.Nat.{ℕ, suc, ◌+◌, ◌-◌, ◌≤◌, ◌<◌}
use native.Mathlib.Nat.{eq-or-lt_of_le}
use native.Mathlib.Numerals.{add-one}
use native.Mathlib.Omega.{arith}
use mathlib.Core.Path.{◌≡◌, refl, sym, ap, subst, subst₂, ◌∙◌}
use mathlib.Core.Logic.{⊎_elim}
use mathlib.Core.List.{List, [], ◌∷◌, ◌++◌, map}
use lib.ListN.{length, get_or, take, set, length-append, length-set}
use lib.Seq.{take-suc-set, get_or-set_same, get_or-set_other}
use Rattle.model.specs.Verdict.{Pass}
use Rattle.model.specs.declared.Hop.{Hop}
use Rattle.model.specs.declared.NamedStop.{NamedStop}
use Rattle.model.specs.Lists.{count_from, each, different}
use Rattle.model.specs.Profile.{Layout, hops, entry_nodes, profile_verdict}
use Rattle.model.specs.Request.{Search}
use Rattle.model.specs.Path.{leg_at}
use Rattle.model.specs.Tree.{entries_at}
use Rattle.laws.proofs.Accepted.{accepted}
use Rattle.laws.proofs.EntryNodes.{entry_nodes-bound}
use Rattle.laws.specs.Stops.{domain_in}
use Rattle.profile_hop_range.specs.Ranges.{PairRange}
use Rattle.tree_levels.specs.Entries.{placed, heads_of}
use Rattle.tree_levels.specs.Levels.{nodes_at, nodes_up_to, start_of, Several, Covers, Room, Noted, LaidOut}
use Rattle.tree_levels.proofs.Placing.{take-placed, length-placed}
use Rattle.tree_levels.proofs.Legs.{neighbours-apart, count-is, leg-noted, last-noted, tally_up_to, tally_none, tally_next, tally_all, leg-tally}
use Rattle.tree_levels.proofs.Nodes.{nodes_here, nodes-behind, nodes-few}
use Rattle.tree_levels.proofs.Blocks.{each_next}

-- after the first legs
pub record Filled (S : Search) (L : Layout) (s addresses starts firsts lasts : List ℕ) (end examined i : ℕ) : Type 0 where
  pub ends : end ≡ start_of S (suc i)
  pub nodes : take end addresses ≡ nodes_up_to S (suc i)
  pub places_start : (j : ℕ) → j ≤ suc i → get_or starts j 0 ≡ start_of S j
  pub leg_ranges : (j : ℕ) → j < i → PairRange L s (leg_at S j).from (leg_at S j).to (get_or firsts j 0) (get_or lasts j 0)
  pub tallied : examined ≡ tally_up_to S i

-- ---- the nodes of the places

nodes_next : (S : Search) (n : ℕ) → nodes_up_to S (suc n) ≡ nodes_up_to S n ++ nodes_at S n
unfolding nodes_up_to
nodes_next S n = each_next (nodes_at S) n

-- the heads of a pair's hop records are its entry nodes
pub heads_are : (L : Layout) (s : List ℕ) (d e first last : ℕ) → PairRange L s d e first last → entry_nodes d e (hops L s) ≡ heads_of L s first last
unfolding entry_nodes heads_of
heads_are L s d e first last range = ap (λ (hs : List Hop). different (map (λ (h : Hop). h.head.0) hs)) range.those

entries_next
    : (S : Search) (L : Layout) (s : List ℕ) (i first last : ℕ) → S.hops ≡ hops L s
    → PairRange L s (leg_at S i).from (leg_at S i).to first last → entries_at S (suc i) ≡ heads_of L s first last
unfolding entries_at
entries_next S L s i first last e range =
    ap (entry_nodes (leg_at S i).from (leg_at S i).to) e ∙ heads_are L s (leg_at S i).from (leg_at S i).to first last range

-- ---- cells stored one behind the other, in two lists at a time

stored_next
    : (P : ℕ → ℕ → ℕ → Type 0) (l m : List ℕ) (n u v : ℕ) → n < length l → n < length m
    → ((j : ℕ) → j < n → P j (get_or l j 0) (get_or m j 0)) → P n u v
    → (j : ℕ) → j ≤ n → P j (get_or (set l n u) j 0) (get_or (set m n v) j 0)
stored_next P l m n u v h k before this j low =
    ⊎_elim
    (λ (e : j ≡ n).
    subst (λ (q : ℕ). P q (get_or (set l n u) q 0) (get_or (set m n v) q 0)) (sym e)
    (subst₂ (P n) (sym (get_or-set_same l n u 0 h)) (sym (get_or-set_same m n v 0 k)) this))
    (λ (b : j < n).
    let apart : j ≡ n → ⊥ = λ e. omega arith in
    subst₂ (P j) (sym (get_or-set_other l n j u 0 apart)) (sym (get_or-set_other m n j v 0 apart)) (before j b))
    (eq-or-lt_of_le low)

-- ---- start, one place more, end

module _ (S : Search) (L : Layout) (s : List ℕ) where
  start_at : ℕ → ℕ → ℕ → Type 0
  start_at j x y = x ≡ start_of S j

  leg_at_place : ℕ → ℕ → ℕ → Type 0
  leg_at_place j x y = PairRange L s (leg_at S j).from (leg_at S j).to x y

  nodes-start : 0 < length S.sequence → nodes_up_to S 1 ≡ S.source ∷ []
  unfolding nodes_up_to each count_from entries_at
  nodes-start h = nodes_next S 0 ∙ nodes_here S 0 h

  pub filled-start
      : (a st f g : List ℕ) → 0 < length S.sequence → 0 < length a → 1 < length st
      → Filled S L s (set a 0 S.source) (set (set st 0 0) 1 1) f g 1 0 0
  unfolding nodes_up_to each count_from start_at
  filled-start a st f g h k m =
      record {
        ends = sym (ap length (nodes-start h));
        nodes = take-suc-set a 0 S.source k ∙ sym (nodes-start h);
        places_start =
            stored_next start_at (set st 0 0) (set st 0 0) 1 1 1
            (rw length-set m)
            (rw length-set m)
            (λ j b. let first : j ≡ 0 = omega arith in rw first (get_or-set_same st 0 0 0 (omega arith)))
            (sym (ap length (nodes-start h)));
        leg_ranges = λ j b. absurd (omega arith);
        tallied = sym (tally_none S);
      }

  -- leg i and the place behind it
  pub Filled-more
      : (a st f g : List ℕ) (end x i n k : ℕ) (f' g' : List ℕ) (first last : ℕ) (more new : List ℕ) (after x' : ℕ)
      → Filled S L s a st f g end x i
      → Room a st f g
      → S.hops ≡ hops L s
      → length S.sequence ≤ 16
      → i < length S.sequence
      → n ≡ suc i
      → k ≡ suc n
      → Noted L s f g (leg_at S i).from (leg_at S i).to i f' g' first last
      → nodes_at S (suc i) ≡ more
      → after ≡ end + length more
      → take after new ≡ take end a ++ more
      → x' ≡ x + (last - first)
      → Filled S L s new (set st k after) f' g' after x' n
  unfolding start_at leg_at_place
  Filled-more a st f g end x i n k f' g' first last more new after x' filled room e most h en ek noted here ends stored ex =
      let up_to : nodes_up_to S (suc (suc i)) ≡ nodes_up_to S (suc i) ++ more = nodes_next S (suc i) ∙ ap (λ (r : List ℕ). nodes_up_to S (suc i) ++ r) here in
      let reaches : after ≡ start_of S (suc (suc i)) = omega (arith, filled.ends, ap length up_to, length-append (nodes_up_to S (suc i)) more) in
      let place : suc (suc i) < length st = omega (arith, room.for_starts) in
      rw (ek, en, noted.first_stored, noted.last_stored) record {
        ends = reaches;
        nodes = stored ∙ ap (λ (r : List ℕ). r ++ more) filled.nodes ∙ sym up_to;
        places_start = stored_next start_at st st (suc (suc i)) after after place place (λ j b. filled.places_start j (omega arith)) reaches;
        leg_ranges =
            λ j b. stored_next leg_at_place f g i first last (omega (arith, room.for_firsts)) (omega (arith, room.for_lasts)) filled.leg_ranges noted.range j (omega arith);
        tallied = omega (arith, filled.tallied, tally_next S i h, leg-tally S L s (leg_at S i) first last e noted.range);
      }

  -- all places
  pub laid_out
      : (a st f g : List ℕ) (end x : ℕ) → end ≤ 242 → ((i : ℕ) → length (nodes_at S i) ≤ 16) → Filled S L s a st f g end x (length S.sequence)
      → LaidOut S L s a st f g x
  laid_out a st f g end x h few filled =
      record {
        fits = omega (arith, filled.ends);
        addresses_are = ap (λ (n : ℕ). take n a) (sym filled.ends) ∙ filled.nodes;
        few = few;
        starts_are = filled.places_start;
        ranges = filled.leg_ranges;
        tally-is = filled.tallied ∙ tally_all S;
      }

-- ---- the same from the domains

-- the arrays keep their lengths
pub room-more
    : (L : Layout) (s a st f g : List ℕ) (end d e i k : ℕ) (f' g' : List ℕ) (first last : ℕ) (more new : List ℕ) (after : ℕ)
    → Room a st f g
    → Noted L s f g d e i f' g' first last
    → end + length more ≤ 242
    → new ≡ placed end more a
    → Room new (set st k after) f' g'
room-more L s a st f g end d e i k f' g' first last more new after room noted fits stored =
    record {
      for_addresses_lem = ap length stored ∙ length-placed end more a (omega (arith, room.for_addresses_lem)) ∙ room.for_addresses_lem;
      for_starts = length-set st k after ∙ room.for_starts;
      for_firsts = ap length noted.first_stored ∙ length-set f i first ∙ room.for_firsts;
      for_lasts = ap length noted.last_stored ∙ length-set g i last ∙ room.for_lasts;
    }

-- a leg to another domain brings at most 16 entries
pub few-heads
    : (L : Layout) (s : List ℕ) (stops : List NamedStop) (count i n first last : ℕ)
    → profile_verdict L s ≡ Pass
    → Several stops count
    → n ≡ suc i
    → n < count
    → PairRange L s (domain_in stops i) (domain_in stops n) first last
    → length (heads_of L s first last) ≤ 16
few-heads L s stops count i n first last passed several en h range =
    subst (λ (l : List ℕ). length l ≤ 16) (heads_are L s (domain_in stops i) (domain_in stops n) first last range)
    (entry_nodes-bound L s (accepted L s passed) (domain_in stops i) (domain_in stops n)
    (λ e. neighbours-apart stops count i several (omega arith) (e ∙ ap (λ (m : ℕ). (domain_in stops m)) en)))

module _ (S : Search) (L : Layout) (s : List ℕ) (stops : List NamedStop) (count source destination : ℕ)
    (several : Several stops count) (covers : Covers S L s stops count source destination) where
  -- leg i to the next domain, and the heads of its hop records
  pub next-filled
      : (a st f g : List ℕ) (end x i n k : ℕ) (f' g' : List ℕ) (first last : ℕ) (new : List ℕ) (after x' : ℕ)
      → Filled S L s a st f g end x i
      → Room a st f g
      → end ≤ 242
      → n ≡ suc i
      → k ≡ suc n
      → n < count
      → Noted L s f g (domain_in stops i) (domain_in stops n) i f' g' first last
      → after ≡ end + length (heads_of L s first last)
      → new ≡ placed end (heads_of L s first last) a
      → x' ≡ x + (last - first)
      → Filled S L s new (set st k after) f' g' after x' n
  next-filled a st f g end x i n k f' g' first last new after x' filled room fits en ek h noted ends stored ex =
      let long = count-is S L s stops count source destination several covers in
      let most = several.most in
      let leg = leg-noted S L s stops count source destination several covers f g i n f' g' first last en h noted in
      Filled-more S L s a st f g end x i n k f' g' first last (heads_of L s first last) new after x' filled room covers.hops_are (omega arith) (omega arith) en ek
      leg
      (nodes_here S (suc i) (omega arith) ∙ entries_next S L s i first last covers.hops_are leg.range)
      ends
      (rw (stored, ends) (take-placed end (heads_of L s first last) a (omega (arith, room.for_addresses_lem))))
      ex

  -- the last leg, to its own domain, and the destination
  pub last-filled
      : (a st f g : List ℕ) (end x i k : ℕ) (f' g' : List ℕ) (first last x' : ℕ)
      → Filled S L s a st f g end x i
      → Room a st f g
      → profile_verdict L s ≡ Pass
      → end < 242
      → k ≡ suc (suc i)
      → suc i ≡ count
      → Noted L s f g (domain_in stops i) (domain_in stops i) i f' g' first last
      → x' ≡ x + (last - first)
      → LaidOut S L s (set a end destination) (set st k (end + 1)) f' g' x'
  last-filled a st f g end x i k f' g' first last x' filled room passed fits ek h noted ex =
      let long = count-is S L s stops count source destination several covers in
      let most = several.most in
      let all : length S.sequence ≡ suc i = omega arith in
      laid_out S L s (set a end destination) (set st k (end + 1)) f' g' (end + 1) x' (omega arith)
      (nodes-few S L s stops count source destination passed several covers)
      (Filled-more S L s a st f g end x i (length S.sequence) k f' g' first last (destination ∷ []) (set a end destination) (end + 1) x' filled room
      covers.hops_are (omega arith) (omega arith) all (ek ∙ ap suc (sym all))
      (last-noted S L s stops count source destination several covers f g i f' g' first last h noted)
      (ap (nodes_at S) (sym all) ∙ nodes-behind S ∙ ap {B = List ℕ} (λ (d : ℕ). d ∷ []) covers.destination-is)
      refl
      (rw add-one (take-suc-set a end destination (omega (arith, room.for_addresses_lem))))
      ex)
