-- The legs of a sequence from its domains, and the number of the first legs' hop records. By recursion on the sequence.
use Prim.Native.Nat.{ℕ, zero, suc, ◌+◌, ◌-◌, ◌<◌}
use native.Mathlib.Omega.{arith}
use mathlib.Core.Path.{◌≡◌, refl, sym, ap, ◌∙◌}
use mathlib.Core.List.{List, [], ◌∷◌, ◌++◌, map}
use lib.ListN.{length, get_or, take, drop, length-map, get_or-map, take-append-drop}
use lib.Seq.{take-suc, take_all, drop-cons, length-take-le, length-slice, get_or-take}
use Rattle.std.specs.Prelude.{None}
use Rattle.model.specs.declared.NamedStop.{NamedStop}
use Rattle.model.specs.Lists.{all_different, keep, sum}
use Rattle.model.specs.Profile.{Layout, hops, between}
use Rattle.model.specs.Sequence.{Stop}
use Rattle.model.specs.Request.{Search}
use Rattle.model.specs.Path.{Leg, legs, no_leg, no_stop, stop_at, leg_at}
use Rattle.model.specs.Tree.{tally}
use Rattle.laws.proofs.Lists.{map-append}
use Rattle.laws.proofs.NumberLists.{different-behind, different_next}
use Rattle.laws.proofs.PathsAreThePaths.{length_legs}
use Rattle.laws.proofs.Records.{length-hops}
use Rattle.laws.specs.Stops.{domain_in}
use Rattle.profile_hop_range.specs.Ranges.{PairRange}
use Rattle.tree_levels.specs.Levels.{indexes_of, Several, Covers, Noted}

-- ---- from one domain to the next, and from the last to itself

pub leg_on : (ps : List Stop) (i : ℕ) → suc i < length ps → get_or (legs ps) i no_leg ≡ record { from = (get_or ps i no_stop).domain; to = (get_or ps (suc i) no_stop).domain }
unfolding legs
leg_on [] i h = absurd (omega arith)
leg_on (d ∷ []) i h = absurd (omega arith)
leg_on (d ∷ e ∷ rest) zero h = refl
leg_on (d ∷ e ∷ rest) (suc i) h = leg_on (e ∷ rest) i (omega arith)

pub leg-last : (ps : List Stop) (i : ℕ) → suc i ≡ length ps → get_or (legs ps) i no_leg ≡ record { from = (get_or ps i no_stop).domain; to = (get_or ps i no_stop).domain }
unfolding legs
leg-last [] i h = absurd (omega arith)
leg-last (d ∷ []) zero h = refl
leg-last (d ∷ []) (suc i) h = absurd (omega arith)
leg-last (d ∷ e ∷ rest) zero h = absurd (omega arith)
leg-last (d ∷ e ∷ rest) (suc i) h = leg-last (e ∷ rest) i (omega arith)

index_at : (stops : List NamedStop) (count i : ℕ) → i < count → get_or (indexes_of count stops) i 0 ≡ domain_in stops i
index_at stops count i h =
    let index : NamedStop → ℕ = λ p. p.domain.0 in
    let none : NamedStop = record { domain = record { 0 = 0 }; pin = None; named = 0 } in
    get_or-map index (take count stops) i none ∙ ap index (get_or-take count stops i none h)

length-indexes : (stops : List NamedStop) (count : ℕ) → Several stops count → length (indexes_of count stops) ≡ count
length-indexes stops count several =
    length-map (take count stops) (λ (p : NamedStop). p.domain.0) ∙ length-take-le count stops (omega (arith, several.most, several.cells))

-- neighbours are different
pub neighbours-apart
    : (stops : List NamedStop) (count i : ℕ) → Several stops count → suc i < count → domain_in stops i ≡ domain_in stops (suc i) → ⊥
neighbours-apart stops count i several h same =
    let ds = indexes_of count stops in
    let long = length-indexes stops count several in
    let cut : ds ≡ take i ds ++ (get_or ds i 0 ∷ get_or ds (suc i) 0 ∷ drop (suc (suc i)) ds) =
    sym (take-append-drop i ds)
    ∙ ap (λ (r : List ℕ). take i ds ++ r)
    (drop-cons ds i 0 (omega arith) ∙ ap {B = List ℕ} (λ (r : List ℕ). get_or ds i 0 ∷ r) (drop-cons ds (suc i) 0 (omega arith))) in
    different_next (get_or ds i 0) (get_or ds (suc i) 0) (drop (suc (suc i)) ds)
    (different-behind (take i ds) _ (ap all_different (sym cut) ∙ several.different))
    (index_at stops count i (omega arith) ∙ same ∙ sym (index_at stops count (suc i) h))

-- ---- of a search over given domains

module _ (S : Search) (L : Layout) (s : List ℕ) (stops : List NamedStop) (count source destination : ℕ)
    (several : Several stops count) (covers : Covers S L s stops count source destination) where
  pub count-is : length S.sequence ≡ count
  count-is =
      sym (length-map S.sequence (λ (p : Stop). p.domain)) ∙ ap length covers.domains_are ∙ length-indexes stops count several

  domain-is : (i : ℕ) → i < count → (stop_at S i).domain ≡ (domain_in stops i)
  domain-is i h =
      sym (get_or-map (λ (p : Stop). p.domain) S.sequence i no_stop)
      ∙ ap (λ (ds : List ℕ). get_or ds i 0) covers.domains_are
      ∙ index_at stops count i h

  -- a leg before the last goes to another domain
  pub leg-apart : (i : ℕ) → suc i < count → (leg_at S i).from ≡ (leg_at S i).to → ⊥
  leg-apart i h e =
      let on = leg_on S.sequence i (omega (arith, count-is)) in
      neighbours-apart stops count i several h
      (sym (domain-is i (omega arith)) ∙ sym (ap (λ (l : Leg). l.from) on) ∙ e ∙ ap (λ (l : Leg). l.to) on ∙ domain-is (suc i) h)

  -- the hop records of a leg, from those of its two domains
  pub leg-noted
      : (f g : List ℕ) (i n : ℕ) (f' g' : List ℕ) (first last : ℕ) → n ≡ suc i → n < count
      → Noted L s f g (domain_in stops i) (domain_in stops n) i f' g' first last
      → Noted L s f g (leg_at S i).from (leg_at S i).to i f' g' first last
  leg-noted f g i n f' g' first last e h noted =
      rw (leg_on S.sequence i (omega (arith, count-is)), domain-is i (omega arith), ← e, domain-is n h) noted

  pub last-noted
      : (f g : List ℕ) (i : ℕ) (f' g' : List ℕ) (first last : ℕ) → suc i ≡ count
      → Noted L s f g (domain_in stops i) (domain_in stops i) i f' g' first last
      → Noted L s f g (leg_at S i).from (leg_at S i).to i f' g' first last
  last-noted f g i f' g' first last h noted =
      rw (leg-last S.sequence i (omega (arith, count-is)), domain-is i (omega arith)) noted

-- ---- the tally of the first legs

sum-append : (xs ys : List ℕ) → sum (xs ++ ys) ≡ sum xs + sum ys
unfolding sum
sum-append [] ys = omega arith
sum-append (x ∷ xs) ys = omega (arith, sum-append xs ys)

abbrev pub leg_tally : Search → Leg → ℕ
leg_tally S leg = length (keep (between leg.from leg.to) S.hops)

abbrev pub tally_up_to : Search → ℕ → ℕ
tally_up_to S i = sum (map (leg_tally S) (take i (legs S.sequence)))

pub tally_none : (S : Search) → tally_up_to S 0 ≡ 0
unfolding sum
tally_none S = refl

pub tally_next : (S : Search) (i : ℕ) → i < length S.sequence → tally_up_to S (suc i) ≡ tally_up_to S i + leg_tally S (leg_at S i)
unfolding sum
tally_next S i h =
    ap (λ (ls : List Leg). sum (map (leg_tally S) ls)) (take-suc (legs S.sequence) i no_leg (omega (arith, length_legs S.sequence)))
    ∙ ap sum (map-append (leg_tally S) (take i (legs S.sequence)) (leg_at S i ∷ []))
    ∙ sum-append (map (leg_tally S) (take i (legs S.sequence))) (leg_tally S (leg_at S i) ∷ [])
    ∙ omega arith

pub tally_all : (S : Search) → tally_up_to S (length S.sequence) ≡ tally S
unfolding tally
tally_all S = ap (λ (ls : List Leg). sum (map (leg_tally S) ls)) (take_all (length S.sequence) (legs S.sequence) (omega (arith, length_legs S.sequence)))

-- a leg's part of it from its hop records
pub leg-tally
    : (S : Search) (L : Layout) (s : List ℕ) (leg : Leg) (first last : ℕ) → S.hops ≡ hops L s → PairRange L s leg.from leg.to first last
    → leg_tally S leg ≡ last - first
leg-tally S L s leg first last e range =
    rw e (ap length range.those ∙ length-slice first last (hops L s) (omega (arith, range.within, length-hops L s)))
