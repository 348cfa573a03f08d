-- Of its exclusions a search knows only those that hit the profile: that take away one of its domains or a node of its hop records. Searches that differ in
-- their exclusions alone, with the same hits, find the same: an address in no hop record has no hop leaving it, so it has no suffix either way.
use mathlib.Core.Path.{◌≡◌, refl, sym, subst, ap, ap₂, ◌∙◌}
use mathlib.Core.Bool.{Bool, true, false, not, ◌&&◌, ◌||◌}
use mathlib.Core.List.{List, [], ◌∷◌, ◌++◌, map, Memᴰ}
use Prim.Native.Nat.{ℕ, zero, suc, ◌<◌}
use native.Mathlib.Omega.{arith}
use lib.ListN.{length, get_or, drop, length-map}
use lib.Dec.{ltb}
use borrow.Author.Tests.{ltb-true}
use Rattle.model.specs.declared.Domain.{Domain}
use Rattle.model.specs.declared.Hop.{Hop}
use Rattle.model.specs.Lists.{keep_if, keep, any, each, count_from, sum}
use Rattle.model.specs.Subobject.{Named, Subobject}
use Rattle.model.specs.Profile.{between, entry_nodes}
use Rattle.model.specs.Sequence.{Stop, no_domain, domain_of, domains_of}
use Rattle.model.specs.Exclusion.{some_desired, takes_domain, takes_node, excluded_domain, excluded_node}
use Rattle.model.specs.Request.{Search}
use Rattle.model.specs.Path.{Leg, legs, no_leg, leg_at, no_stop, stop_at, keeps_pin, keeps_bound, exclusions_at, place_allows, allowed, Route, extended, hops_from, routes_if, suffixes, paths, admissible, cheapest, shortest_paths}
use Rattle.model.specs.Tree.{entries_at, suffixes_at, entry, tree, tally}
use Rattle.laws.proofs.Tests.{or_left, or_right, clash, refuted}
use Rattle.laws.proofs.Lists.{any_append, mem_any, mem_each, map_agree, count_from_mem}
use Rattle.laws.proofs.Picks.{each_agree}
use Rattle.laws.proofs.Ascending.{get_or_mem}
use Rattle.laws.specs.Descent.{ending}
use Rattle.laws.proofs.Suffixes.{hops_from_mem, behind}
use Rattle.laws.proofs.EntryNodes.{mem_entry_nodes}
use Rattle.laws.specs.Reach.{least_from}
use Rattle.laws.proofs.TreeLeast.{entry_of, entry-is, legs_left}
pub use Rattle.laws.proofs.Ends.{ends_of}

-- ---- what hits

-- an exclusion takes away one of these domains or of these nodes: all of a profile, or those of one stop
unfoldable pub hits : List Domain → List ℕ → Subobject → Bool
hits ds nodes s = any (λ (d : Domain). takes_domain d s.names) ds || any (λ (a : ℕ). takes_node a s.names) nodes

-- an exclusion wherever it stands in its list: X and what it names
abbrev pub unplaced : Subobject → Subobject
unplaced s = record { offset = 0; top = s.top; names = s.names }

-- the exclusions that hit, in their order
unfoldable pub hitting : List Domain → List ℕ → List Subobject → List Subobject
hitting ds nodes exclusions = keep (hits ds nodes) (map unplaced exclusions)

-- ---- nothing else takes anything away

any_unplaced : (p : Named → Bool) (xs : List Subobject) → any (λ (s : Subobject). p s.names) (map unplaced xs) ≡ any (λ (s : Subobject). p s.names) xs
any_unplaced p [] = refl
any_unplaced p (s ∷ xs) = ap (λ (b : Bool). p s.names || b) (any_unplaced p xs)

pub desired_unplaced : (xs : List Subobject) → some_desired (map unplaced xs) ≡ some_desired xs
unfolding some_desired
desired_unplaced [] = refl
desired_unplaced (s ∷ xs) = ap (λ (b : Bool). s.top || b) (desired_unplaced xs)

-- what fails the second test fails the first too
any-keep : {A : Type 0} (p q : A → Bool) (xs : List A) → ((x : A) → p x ≡ true → q x ≡ true) → any p (keep q xs) ≡ any p xs
unfolding keep
any-keep p q [] h = refl
any-keep p q (x ∷ xs) h = go (q x) refl ∙ ap (λ (b : Bool). p x || b) (any-keep p q xs h)
  where
    go : (b : Bool) → q x ≡ b → any p (keep_if b x (keep q xs)) ≡ p x || any p (keep q xs)
    go true e = refl
    go false e = ap (λ (b : Bool). b || any p (keep q xs)) (sym (refuted (p x) (λ t. clash (h x t) e)))

module _ (ds : List Domain) (nodes : List ℕ) where
  only-hitting
      : (p : Named → Bool) → ((s : Subobject) → p s.names ≡ true → hits ds nodes s ≡ true)
      → (xs : List Subobject) → any (λ (s : Subobject). p s.names) (hitting ds nodes xs) ≡ any (λ (s : Subobject). p s.names) xs
  unfolding hitting
  only-hitting p h xs = any-keep (λ (s : Subobject). p s.names) (hits ds nodes) (map unplaced xs) h ∙ any_unplaced p xs

  module _ (xs ys : List Subobject) (same : hitting ds nodes xs ≡ hitting ds nodes ys) where
    alike
        : (p : Named → Bool) → ((s : Subobject) → p s.names ≡ true → hits ds nodes s ≡ true)
        → any (λ (s : Subobject). p s.names) xs ≡ any (λ (s : Subobject). p s.names) ys
    alike p h = sym (only-hitting p h xs) ∙ ap (any (λ (s : Subobject). p s.names)) same ∙ only-hitting p h ys

    pub domain_alike : (d : Domain) → Memᴰ d ds → excluded_domain xs d ≡ excluded_domain ys d
    unfolding excluded_domain hits
    domain_alike d m = alike (takes_domain d) (λ s t. or_left _ _ (mem_any (λ (e : Domain). takes_domain e s.names) m t))

    pub node_alike : (a : ℕ) → Memᴰ a nodes → excluded_node xs a ≡ excluded_node ys a
    unfolding excluded_node hits
    node_alike a m =
        alike (takes_node a)
        (λ s t. or_right (any (λ (d : Domain). takes_domain d s.names) ds) _ (mem_any (λ (b : ℕ). takes_node b s.names) m t))

-- ---- two searches

-- the same search with other exclusions: at every place, and at the place of each domain
abbrev pub excluding : Search → List Stop → List Subobject → List (List Subobject) → Search
excluding S sequence everywhere own =
    record {
      domains = S.domains;
      hops = S.hops;
      sequence = sequence;
      exclusions = everywhere;
      stretches = own;
      source = S.source;
      destination = S.destination;
      limits = S.limits;
    }

-- two searches find the same: from every entry of a place of the sequence and so in all
pub record SameFound (S T : Search) : Type 0 where
  pub suffixes : (i a : ℕ) → i < length S.sequence → Memᴰ a (entries_at S i) → suffixes_at S i a ≡ suffixes_at T i a
  pub paths : paths S ≡ paths T
  pub admissible : admissible S ≡ admissible T
  pub shortest : shortest_paths S ≡ shortest_paths T
  pub tree : tree S ≡ tree T
  pub tally : tally S ≡ tally T

-- an address that no hop leaves has no suffix
none_leaves : (S : Search) (leg : Leg) (rest : List Leg) (i a : ℕ) → hops_from S leg a ≡ [] → suffixes S (leg ∷ rest) i a ≡ []
unfolding suffixes each
none_leaves S leg rest i a e = ap (λ (hs : List Hop). routes_if (allowed S i a) (each (behind S rest i a) hs)) e ∙ nothing (allowed S i a)
  where
    nothing : (b : Bool) → routes_if b [] ≡ []
    nothing true = refl
    nothing false = refl

-- a sequence of the same domains has the same legs
legs_alike : (ps qs : List Stop) → domains_of ps ≡ domains_of qs → legs ps ≡ legs qs
unfolding legs
legs_alike [] [] e = refl
legs_alike [] (q ∷ qs) e = absurd (omega (arith, ap length e))
legs_alike (p ∷ ps) [] e = absurd (omega (arith, ap length e))
legs_alike (p ∷ []) (q ∷ []) e = let d : p.domain ≡ q.domain = ap (λ (x : List ℕ). get_or x 0 0) e in ap {B = List Leg} (λ (x : ℕ). record { from = x; to = x } ∷ []) d
legs_alike (p ∷ []) (q ∷ q' ∷ qs) e = absurd (omega (arith, ap length e))
legs_alike (p ∷ p' ∷ ps) (q ∷ []) e = absurd (omega (arith, ap length e))
legs_alike (p ∷ p' ∷ ps) (q ∷ q' ∷ qs) e =
    let d : p.domain ≡ q.domain = ap (λ (x : List ℕ). get_or x 0 0) e in
    let f : p'.domain ≡ q'.domain = ap (λ (x : List ℕ). get_or x 1 0) e in
    ap₂ {C = List Leg} (λ (x : Leg) (rest : List Leg). x ∷ rest) (λ i. record { from = d i; to = f i }) (legs_alike (p' ∷ ps) (q' ∷ qs) (ap (drop 1) e))

-- what is left from a place on, if it starts with a leg
legs_from_lem : (ls : List Leg) (i : ℕ) (leg : Leg) (rest : List Leg) → drop i ls ≡ leg ∷ rest → (get_or ls i no_leg ≡ leg) × (drop (suc i) ls ≡ rest)
legs_from_lem [] zero leg rest e = absurd (omega (arith, ap length e))
legs_from_lem [] (suc i) leg rest e = absurd (omega (arith, ap length e))
legs_from_lem (l ∷ ls) zero leg rest e = (ap (λ (x : List Leg). get_or x 0 no_leg) e, ap (drop 1) e)
legs_from_lem (l ∷ ls) (suc i) leg rest e = legs_from_lem ls i leg rest e

-- two searches over the same domains that allow the same of the entries at every place that stand in the hop records
module _
    (S : Search) (sequence : List Stop) (everywhere : List Subobject) (own : List (List Subobject))
    (along : domains_of S.sequence ≡ domains_of sequence)
    (alike
    : (i a : ℕ)
    → Memᴰ a (entries_at S i)
    → Memᴰ a (ends_of S.hops)
    → allowed S i a ≡ allowed (excluding S sequence everywhere own) i a) where
  abbrev T : Search
  T = excluding S sequence everywhere own

  same_legs : legs S.sequence ≡ legs sequence
  same_legs = legs_alike S.sequence sequence along

  same_length : length S.sequence ≡ length sequence
  same_length = sym (length-map S.sequence (λ (p : Stop). p.domain)) ∙ ap length along ∙ length-map sequence (λ (p : Stop). p.domain)

  -- from an entry that stands in the hop records; the head of a hop of the leg is an entry at the next place
  suffixes-alike
      : (rest : List Leg) (i a : ℕ) → drop i (legs S.sequence) ≡ rest
      → Memᴰ a (entries_at S i)
      → Memᴰ a (ends_of S.hops)
      → suffixes S rest i a ≡ suffixes T rest i a
  unfolding suffixes hops_from entries_at
  suffixes-alike [] i a e m n = ap (λ (b : Bool). routes_if b (ending a ∷ [])) (alike i a m n)
  suffixes-alike (leg ∷ rest) i a e m n =
      let l = legs_from_lem (legs S.sequence) i leg rest e in
      ap₂ routes_if (alike i a m n)
      (each_agree (behind S rest i a) (behind T rest i a) (hops_from S leg a)
      (λ h k.
      let q = hops_from_mem S leg a k in
      ap (map (extended a h))
      (suffixes-alike rest (suc i) h.head.0 l.1
      (subst (λ (x : Leg). Memᴰ h.head.0 (entry_nodes x.from x.to S.hops)) (sym l.0) (mem_entry_nodes leg.from leg.to S.hops q.recorded q.on_leg))
      (mem_each (λ (g : Hop). g.tail.0 ∷ g.head.0 ∷ []) q.recorded (Memᴰ.tail (Memᴰ.head refl))))))

  -- and from any other entry where a leg is left
  leg-alike
      : (leg : Leg) (rest : List Leg) (i a : ℕ) → drop i (legs S.sequence) ≡ leg ∷ rest
      → Memᴰ a (entries_at S i)
      → suffixes S (leg ∷ rest) i a ≡ suffixes T (leg ∷ rest) i a
  unfolding hops_from
  leg-alike leg rest i a l m = go (hops_from S leg a) refl
    where
      go : (hs : List Hop) → hops_from S leg a ≡ hs → suffixes S (leg ∷ rest) i a ≡ suffixes T (leg ∷ rest) i a
      go [] e = none_leaves S leg rest i a e ∙ sym (none_leaves T leg rest i a e)
      go (h ∷ hs) e =
          let k = hops_from_mem S leg a (subst (Memᴰ h) (sym e) (Memᴰ.head refl)) in
          suffixes-alike (leg ∷ rest) i a l m
          (mem_each (λ (g : Hop). g.tail.0 ∷ g.head.0 ∷ []) k.recorded (Memᴰ.head (sym k.tail)))

  at_alike : (i a : ℕ) → i < length S.sequence → Memᴰ a (entries_at S i) → suffixes_at S i a ≡ suffixes_at T i a
  at_alike i a h m =
      ap (λ (ls : List Leg). suffixes S ls i a) (legs_left S i h)
      ∙ leg-alike (leg_at S i) (drop (suc i) (legs S.sequence)) i a (legs_left S i h) m
      ∙ sym (ap (λ (ls : List Leg). suffixes T ls i a) (legs_left S i h))
      ∙ ap (λ (ls : List Leg). suffixes T (drop i ls) i a) same_legs

  entries_alike : (i : ℕ) → entries_at S i ≡ entries_at T i
  unfolding entries_at
  entries_alike zero = refl
  entries_alike (suc i) = ap (λ (ls : List Leg). entry_nodes (get_or ls i no_leg).from (get_or ls i no_leg).to S.hops) same_legs

  entry_alike : (i a : ℕ) → i < length S.sequence → Memᴰ a (entries_at S i) → entry S i a ≡ entry T i a
  entry_alike i a h m = entry-is S i a ∙ ap (λ (ways : List Route). entry_of i a (least_from ways)) (at_alike i a h m) ∙ sym (entry-is T i a)

  paths_alike : 0 < length S.sequence → paths S ≡ paths T
  unfolding paths entries_at
  paths_alike some = at_alike 0 S.source some (Memᴰ.head refl)

  admissible_alike : 0 < length S.sequence → admissible S ≡ admissible T
  unfolding admissible
  admissible_alike some = ap (keep (λ (r : Route). keeps_bound S.limits r.total)) (paths_alike some)

  shortest_alike : 0 < length S.sequence → shortest_paths S ≡ shortest_paths T
  unfolding shortest_paths
  shortest_alike some = ap cheapest (admissible_alike some)

  tree_alike : tree S ≡ tree T
  unfolding tree
  tree_alike =
      each_agree (λ (i : ℕ). map (entry S i) (entries_at S i)) (λ (i : ℕ). map (entry T i) (entries_at T i)) (count_from 0 (length S.sequence))
      (λ i m.
      let r = count_from_mem 0 (length S.sequence) m in
      map_agree (entry S i) (entry T i) (entries_at S i) (λ a n. entry_alike i a (omega arith) n) ∙ ap (map (entry T i)) (entries_alike i))
      ∙ ap (λ (n : ℕ). each (λ (i : ℕ). map (entry T i) (entries_at T i)) (count_from 0 n)) same_length

  tally_alike : tally S ≡ tally T
  unfolding tally
  tally_alike = ap (λ (ls : List Leg). sum (map (λ (leg : Leg). length (keep (between leg.from leg.to) S.hops)) ls)) same_legs

  pub same-found : 0 < length S.sequence → SameFound S T
  same-found some =
      record {
        suffixes = at_alike;
        paths = paths_alike some;
        admissible = admissible_alike some;
        shortest = shortest_alike some;
        tree = tree_alike;
        tally = tally_alike;
      }

-- ---- exclusions at every place that have the same hits

-- a search over domains of the profile
module _
    (S : Search) (inside : (p : Stop) → Memᴰ p S.sequence → p.domain < length S.domains)
    (ys : List Subobject) (same : hitting S.domains (ends_of S.hops) S.exclusions ≡ hitting S.domains (ends_of S.hops) ys) where
  abbrev U : Search
  U = excluding S S.sequence ys S.stretches

  -- beside those of a place's own
  beside : (p : Subobject → Bool) (own : List Subobject) → any p S.exclusions ≡ any p ys → any p (S.exclusions ++ own) ≡ any p (ys ++ own)
  beside p own e = any_append p S.exclusions own ∙ ap (λ (b : Bool). b || any p own) e ∙ sym (any_append p ys own)

  place_alike : (i a : ℕ) (b : Bool) → ltb i (length S.sequence) ≡ b → place_allows b S i a ≡ place_allows b U i a
  unfolding exclusions_at excluded_domain
  place_alike i a true e =
      let D = domain_of S.domains (stop_at S i).domain in
      ap (λ (c : Bool). not c && keeps_pin (stop_at S i).pin a)
      (beside (λ (s : Subobject). takes_domain D s.names) (get_or S.stretches i [])
      (domain_alike S.domains (ends_of S.hops) S.exclusions ys same D
      (get_or_mem S.domains (stop_at S i).domain no_domain (inside (stop_at S i) (get_or_mem S.sequence i no_stop (ltb-true i (length S.sequence) e))))))
  place_alike i a false e = refl

  allowed_alike : (i a : ℕ) → Memᴰ a (ends_of S.hops) → allowed S i a ≡ allowed U i a
  unfolding exclusions_at excluded_node allowed
  allowed_alike i a m =
      ap₂ (λ (b c : Bool). not b && c)
      (beside (λ (s : Subobject). takes_node a s.names) (get_or S.stretches i []) (node_alike S.domains (ends_of S.hops) S.exclusions ys same a m))
      (place_alike i a (ltb i (length S.sequence)) refl)

  pub same_hits : 0 < length S.sequence → SameFound S U
  same_hits = same-found S S.sequence ys S.stretches refl (λ i a m n. allowed_alike i a n)
