-- Excluding what the profile lacks changes nothing but round and tally: document 02, request [1]. The exclusions that hit decide what a search finds, in
-- either round; where the rounds differ all the same, the first has no admissible path and what hits is in force in both.
use mathlib.Core.Path.{◌≡◌, refl, sym, subst, ap, ◌∙◌}
use mathlib.Core.Logic.{◌⊎◌, ⊎_elim}
use mathlib.Core.Bool.{Bool, true, false, not, ◌&&◌, ◌||◌, and_comm}
use mathlib.Core.List.{List, ◌++◌, map, Memᴰ}
use Prim.Native.Nat.{ℕ, ◌<◌}
use native.Mathlib.Omega.{arith}
use lib.ListN.{length}
use Rattle.model.specs.Verdict.{Pass}
use Rattle.model.specs.declared.Domain.{Domain}
use Rattle.model.specs.declared.Round.{Round}
use Rattle.model.specs.declared.Round.TheVariants.{First, Second}
use Rattle.model.specs.declared.ListKind.TheVariants.{Exclude}
use Rattle.model.specs.Lists.{any, each, keep}
use Rattle.model.specs.Profile.{domains, hops}
use Rattle.model.specs.Subobject.{Subobject, form_verdict, subobjects, carried}
use Rattle.model.specs.Sequence.{Stop}
use Rattle.model.specs.Exclusion.{in_force, some_desired}
use Rattle.model.specs.Request.{Request, layout_for, reading_input, all_exclusions, Accepted, search_in}
use Rattle.model.specs.Calls.{build_tree}
use Rattle.laws.proofs.Tests.{or_neither}
use Rattle.laws.proofs.Lists.{keep_mem, keep_agree, keep_all, any_append, any_false, map_agree, map_mem, mem_each}
use Rattle.laws.proofs.Picks.{keep-keep, keep-map}
use Rattle.laws.proofs.Records.{length-domains}
use Rattle.laws.proofs.RoundExact.{counts_in}
use Rattle.laws.proofs.AcceptedRequest.{accepted-verdict, accepted-meaning, passed-request, accepted-length}
use Rattle.laws.proofs.SequenceDomains.{meaning-inside}
use Rattle.laws.proofs.JoinedLists.{Inserted, inserted-lacking, inserted-clear}
use Rattle.laws.proofs.SameAnswers.{SameAnswers, SameEntries, SameRound, same-answers, same_entries, same-tree}
use Rattle.laws.proofs.SameRounds.{same-round}
use Rattle.laws.proofs.Hits.{ends_of, hits, unplaced, hitting, excluding, SameFound, same_hits}

-- ---- requests that differ in what the profile lacks

-- the exclusions of a request that hit its profile
abbrev pub hits_of : Request → List Subobject
hits_of r = hitting (domains r.profile) (ends_of (hops (layout_for r) r.profile)) (subobjects r.exclude)

-- two requests differ in their exclude lists alone, and these in what the profile lacks
pub record SameButLacking (r r' : Request) : Type 0 where
  pub profile : r.profile ≡ r'.profile
  pub ingress : r.ingress ≡ r'.ingress
  pub source : r.source ≡ r'.source
  pub destination : r.destination ≡ r'.destination
  pub include : r.include ≡ r'.include
  pub limits : r.limits ≡ r'.limits
  pub hits : hits_of r ≡ hits_of r'

-- the request with another exclude list
abbrev pub with_exclude : Request → List ℕ → Request
with_exclude r list =
    record {
      profile = r.profile;
      ingress = r.ingress;
      source = r.source;
      destination = r.destination;
      include = r.include;
      exclude = list;
      limits = r.limits;
    }

-- ---- what hits, in a round

keep_swap : {A : Type 0} (p q : A → Bool) (xs : List A) → keep p (keep q xs) ≡ keep q (keep p xs)
keep_swap {A} p q xs =
    keep-keep p q xs ∙ keep_agree (λ (x : A). q x && p x) (λ (x : A). p x && q x) xs (λ x m. and_comm (q x) (p x)) ∙ sym (keep-keep q p xs)

counts_unplaced : (x : Round) (xs : List Subobject) → map unplaced (keep (counts_in x) xs) ≡ keep (counts_in x) (map unplaced xs)
counts_unplaced First xs = sym (keep-map (counts_in First) unplaced xs)
counts_unplaced Second xs = sym (keep-map (counts_in Second) unplaced xs)

pub clear_counts : (x : Round) (s : Subobject) → s.top ≡ false → counts_in x s ≡ true
clear_counts First s e = refl
clear_counts Second s e = ap not e

module _ (ds : List Domain) (nodes : List ℕ) where
  pub hitting_in_force : (x : Round) (xs : List Subobject) → hitting ds nodes (in_force x xs) ≡ keep (counts_in x) (hitting ds nodes xs)
  unfolding hitting in_force
  hitting_in_force x xs = ap (keep (hits ds nodes)) (counts_unplaced x xs) ∙ keep_swap (hits ds nodes) (counts_in x) (map unplaced xs)

  -- where no exclusion has X set, all that hits is in force in both rounds
  pub clear_in_force : (xs : List Subobject) → some_desired xs ≡ false → (x : Round) → keep (counts_in x) (hitting ds nodes xs) ≡ hitting ds nodes xs
  unfolding hitting some_desired
  clear_in_force xs c x =
      keep_all (counts_in x) (keep (hits ds nodes) (map unplaced xs))
      (λ s m.
      let k = map_mem unplaced xs (keep_mem (hits ds nodes) (map unplaced xs) m).0 in
      clear_counts x s (ap (λ (q : Subobject). q.top) k.2 ∙ any_false (λ (q : Subobject). q.top) c k.1))

-- ---- what the round that applies finds

-- what each domain's own EXRS take away in a round
abbrev own_in : Round → List Stop → List (List Subobject)
own_in x sequence = map (λ (p : Stop). in_force x (carried p.exrs)) sequence

-- where none of a sequence's EXRS has X set, they are all in force in both rounds
own_clear : (sequence : List Stop) → some_desired (each (λ (p : Stop). carried p.exrs) sequence) ≡ false → (x y : Round) → own_in x sequence ≡ own_in y sequence
unfolding in_force some_desired
own_clear sequence c x y =
    map_agree (λ (p : Stop). in_force x (carried p.exrs)) (λ (p : Stop). in_force y (carried p.exrs)) sequence
    (λ p m. all x p m ∙ sym (all y p m))
  where
    all : (z : Round) (p : Stop) → Memᴰ p sequence → in_force z (carried p.exrs) ≡ carried p.exrs
    all z p m = keep_all (counts_in z) (carried p.exrs) (λ s n. clear_counts z s (any_false (λ (q : Subobject). q.top) c (mem_each (λ (q : Stop). carried q.exrs) m n)))

-- where no exclusion of a request has X set, none of its exclude list has and none of its EXRS
pub both-clear
    : (bytes : List ℕ) (sequence : List Stop) → some_desired (all_exclusions bytes sequence) ≡ false
    → (some_desired (subobjects bytes) ≡ false) × (some_desired (each (λ (p : Stop). carried p.exrs) sequence) ≡ false)
unfolding some_desired all_exclusions
both-clear bytes sequence c =
    let own = each (λ (p : Stop). carried p.exrs) sequence in
    or_neither (some_desired (subobjects bytes)) (some_desired own) (sym (any_append (λ (q : Subobject). q.top) (subobjects bytes) own) ∙ c)

-- searches of two lists in any rounds, where the exclusions in force have the same hits
in_rounds
    : (r : Request) (list : List ℕ) (sequence : List Stop) → Accepted r sequence
    → (x y : Round)
    → keep (counts_in x) (hits_of r) ≡ keep (counts_in y) (hits_of (with_exclude r list))
    → own_in x sequence ≡ own_in y sequence
    → SameFound (search_in x r sequence) (search_in y (with_exclude r list) sequence)
unfolding search_in
in_rounds r list sequence accepted x y e own =
    let ds = domains r.profile in
    let nodes = ends_of (hops (layout_for r) r.profile) in
    let low : r.ingress < length ds = omega (arith, (passed-request r (accepted-verdict r sequence accepted)).ingress, length-domains r.profile) in
    let S = search_in x r sequence in
    subst (λ (z : List (List Subobject)). SameFound S (excluding S sequence (in_force y (subobjects list)) z)) own
    (same_hits S (meaning-inside (reading_input r.profile) r.ingress r.include sequence (accepted-meaning r sequence accepted) low)
    (in_force y (subobjects list))
    (hitting_in_force ds nodes x (subobjects r.exclude) ∙ e ∙ sym (hitting_in_force ds nodes y (subobjects list)))
    (accepted-length r sequence accepted).0)

module _ (r : Request) (list : List ℕ) (sequence : List Stop) (accepted : Accepted r sequence) (same : hits_of r ≡ hits_of (with_exclude r list)) where
  -- all that hits is in force in both rounds
  pub record AllInForce : Type 0 where
    pub everywhere : (x : Round) → keep (counts_in x) (hits_of r) ≡ hits_of r
    pub own : (x y : Round) → own_in x sequence ≡ own_in y sequence

  clear_first : some_desired (all_exclusions r.exclude sequence) ≡ false → AllInForce
  clear_first c =
      let n = both-clear r.exclude sequence c in
      record {
        everywhere = clear_in_force (domains r.profile) (ends_of (hops (layout_for r) r.profile)) (subobjects r.exclude) n.0;
        own = own_clear sequence n.1;
      }

  clear_second : some_desired (all_exclusions list sequence) ≡ false → AllInForce
  clear_second c =
      let n = both-clear list sequence c in
      record {
        everywhere = λ x.
            subst (λ (k : List Subobject). keep (counts_in x) k ≡ k) (sym same)
            (clear_in_force (domains r.profile) (ends_of (hops (layout_for r) r.profile)) (subobjects list) n.0 x);
        own = own_clear sequence n.1;
      }

  either : (x y : Round) → (x ≡ y) ⊎ AllInForce → SameFound (search_in x r sequence) (search_in y (with_exclude r list) sequence)
  either x y =
      ⊎_elim
      (λ (e : x ≡ y).
      in_rounds r list sequence accepted x y
      (ap (keep (counts_in x)) same ∙ ap (λ (z : Round). keep (counts_in z) (hits_of (with_exclude r list))) e)
      (ap (λ (z : Round). own_in z sequence) e))
      (λ (n : AllInForce).
      in_rounds r list sequence accepted x y
      (n.everywhere x ∙ same ∙ sym (subst (λ (k : List Subobject). keep (counts_in y) k ≡ k) same (n.everywhere y)))
      (n.own x y))

  lacking_round : SameRound r (with_exclude r list) sequence sequence
  lacking_round = same-round r (with_exclude r list) sequence sequence refl AllInForce either clear_first clear_second

-- ---- the laws

module _ (r r' : Request) (sequence : List Stop) (accepted : Accepted r sequence) (accepted' : Accepted r' sequence) (same : SameButLacking r r') where
  rounds : SameRound r r' sequence sequence
  rounds =
      let alone : with_exclude r r'.exclude ≡ r' =
      λ i.
      record {
        profile = same.profile i;
        ingress = same.ingress i;
        source = same.source i;
        destination = same.destination i;
        include = same.include i;
        exclude = r'.exclude;
        limits = same.limits i;
      } in
      subst (λ (q : Request). SameRound r q sequence sequence) alone (lacking_round r r'.exclude sequence accepted (same.hits ∙ ap hits_of (sym alone)))

  -- whatever X is: only tally and round of the tree may differ
  pub lacking_desired : SameAnswers r r' × ((room : ℕ) → SameEntries (build_tree r room) (build_tree r' room))
  lacking_desired = (same-answers r r' sequence sequence accepted accepted' rounds, same_entries r r' sequence sequence accepted accepted' rounds)

  -- where X set comes up in both lists or in neither, as where what the profile lacks has X clear, nothing differs
  pub lacking-clear
      : some_desired (subobjects r.exclude) ≡ some_desired (subobjects r'.exclude)
      → SameAnswers r r' × ((room : ℕ) → build_tree r room ≡ build_tree r' room)
  unfolding all_exclusions some_desired
  lacking-clear e =
      let top : Subobject → Bool = λ (q : Subobject). q.top in
      let own = each (λ (p : Stop). carried p.exrs) sequence in
      let all = any_append top (subobjects r.exclude) own ∙ ap (λ (b : Bool). b || any top own) e ∙ sym (any_append top (subobjects r'.exclude) own) in
      (same-answers r r' sequence sequence accepted accepted' rounds, same-tree r r' sequence sequence accepted accepted' rounds (rounds.clear all))

-- ---- how the hypothesis comes about

-- some exclusions put anywhere into the exclude list of an accepted request
module _
    (r : Request) (sequence : List Stop) (before some after : List ℕ)
    (accepted : Accepted (with_exclude r (before ++ (some ++ after))) sequence)
    (accepted' : Accepted (with_exclude r (before ++ after)) sequence)
    (right : form_verdict Exclude before ≡ Pass)
    (right_some : form_verdict Exclude some ≡ Pass) where
  inserted : Inserted Exclude before some after
  inserted =
      record {
        right-before = right;
        right_some = right_some;
        right_with = (passed-request _ (accepted-verdict _ sequence accepted)).exclude-form;
        right-without = (passed-request _ (accepted-verdict _ sequence accepted')).exclude-form;
      }

  -- the profile lacks all that they name
  pub lacking-inserted
      : ((s : Subobject) → Memᴰ s (subobjects some) → hits (domains r.profile) (ends_of (hops (layout_for r) r.profile)) s ≡ false)
      → SameButLacking (with_exclude r (before ++ (some ++ after))) (with_exclude r (before ++ after))
  lacking-inserted lacks =
      record {
        profile = refl;
        ingress = refl;
        source = refl;
        destination = refl;
        include = refl;
        limits = refl;
        hits = inserted-lacking Exclude before some after inserted (domains r.profile) (ends_of (hops (layout_for r) r.profile)) lacks;
      }

  -- and all have X clear
  pub clear-inserted
      : ((s : Subobject) → Memᴰ s (subobjects some) → s.top ≡ false)
      → some_desired (subobjects (before ++ (some ++ after))) ≡ some_desired (subobjects (before ++ after))
  clear-inserted = inserted-clear Exclude before some after inserted
