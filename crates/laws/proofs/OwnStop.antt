-- An EXRS speaks of its own stop alone: document 02, request [5]. Two include lists that name the same domains and entry constraints, with EXRS that take the same
-- from their own stops, answer alike but for round and tally: at each place only an entry node of its domain and that domain are asked for, and no more is excluded.
use mathlib.Core.Path.{◌≡◌, refl, sym, subst, ap, ap₂, ◌∙◌}
use mathlib.Core.Logic.{◌⊎◌, ⊎_elim}
use mathlib.Core.Bool.{Bool, true, false, not, ◌&&◌, ◌||◌}
use mathlib.Core.List.{List, [], ◌∷◌, ◌++◌, map, Memᴰ}
use mathlib.Core.Option.{Option}
use Prim.Native.Nat.{ℕ, zero, suc}
use lib.ListN.{length, get_or, length-map, get_or-map}
use lib.Dec.{ltb}
use Rattle.model.specs.declared.Round.{Round}
use Rattle.model.specs.declared.Round.TheVariants.{First}
use Rattle.model.specs.Lists.{any, each, keep}
use Rattle.model.specs.Along.{places_along}
use Rattle.model.specs.Profile.{domains}
use Rattle.model.specs.Subobject.{Subobject, subobjects, carried}
use Rattle.model.specs.Sequence.{Stop, domain_of}
use Rattle.model.specs.Exclusion.{in_force, some_desired, takes_domain, takes_node, excluded_domain, excluded_node}
use Rattle.model.specs.Request.{Request, all_exclusions, Accepted, Search, search_in}
use Rattle.model.specs.Path.{no_stop, keeps_pin, exclusions_at, place_allows, allowed}
use Rattle.model.specs.Tree.{entries_at}
use Rattle.model.specs.Calls.{build_tree}
use Rattle.laws.proofs.Tests.{or_neither}
use Rattle.laws.proofs.Lists.{keep_all, keep_none, any_append, any_false, map_mem}
use Rattle.laws.proofs.RoundExact.{counts_in, own-exclusions}
use Rattle.laws.proofs.AcceptedRequest.{accepted-length}
use Rattle.laws.proofs.Hits.{hits, unplaced, hitting, domain_alike, node_alike, SameFound, same-found}
use Rattle.laws.proofs.SameAnswers.{SameAnswers, SameEntries, SameRound, same-answers, same_entries, same-tree}
use Rattle.laws.proofs.SameRounds.{same-round}
use Rattle.laws.proofs.Lacking.{hitting_in_force, clear_in_force, clear_counts, both-clear}
pub use Rattle.laws.proofs.SameButOwn.{exrs_at, own_hits, SameButOwn}

-- ---- requests that differ in EXRS

-- the request with another include list
abbrev with_include : Request → List ℕ → Request
with_include r list =
    record {
      profile = r.profile;
      ingress = r.ingress;
      source = r.source;
      destination = r.destination;
      include = list;
      exclude = r.exclude;
      limits = r.limits;
    }

-- ---- in a round

-- where none of a sequence's EXRS has X set, none at any place has
clear_at : (ps : List Stop) (i : ℕ) → some_desired (each (λ (p : Stop). carried p.exrs) ps) ≡ false → some_desired (carried (exrs_at ps i)) ≡ false
unfolding some_desired each carried subobjects places_along
clear_at [] i c = refl
clear_at (p ∷ ps) zero c =
    let top : Subobject → Bool = λ (s : Subobject). s.top in
    let rest = each (λ (q : Stop). carried q.exrs) ps in
    (or_neither (any top (carried p.exrs)) (any top rest) (sym (any_append top (carried p.exrs) rest) ∙ c)).0
clear_at (p ∷ ps) (suc i) c =
    let top : Subobject → Bool = λ (s : Subobject). s.top in
    let rest = each (λ (q : Stop). carried q.exrs) ps in
    clear_at ps i (or_neither (any top (carried p.exrs)) (any top rest) (sym (any_append top (carried p.exrs) rest) ∙ c)).1

-- a test over exclusions at every place and of the place's own
beside
    : (p : Subobject → Bool) (xs xs' ys ys' : List Subobject) → xs ≡ xs' → any p ys ≡ any p ys' → any p (xs ++ ys) ≡ any p (xs' ++ ys')
beside p xs xs' ys ys' e o = any_append p xs ys ∙ ap₂ ◌||◌ (ap (any p) e) o ∙ sym (any_append p xs' ys')

module _ (r : Request) (list : List ℕ) (s s' : List Stop) (accepted : Accepted r s) (same : SameButOwn r (with_include r list) s s') where
  -- searches in any rounds, where what is in force at every place is the same, and what the EXRS take from each stop
  module _
      (x y : Round) (everywhere : in_force x (subobjects r.exclude) ≡ in_force y (subobjects r.exclude))
      (own : (i : ℕ) → keep (counts_in x) (own_hits r s i (exrs_at s i)) ≡ keep (counts_in y) (own_hits r s i (exrs_at s' i))) where
    abbrev S : Search
    S = search_in x r s

    abbrev T : Search
    T = search_in y (with_include r list) s'

    domain-same : (i : ℕ) → (get_or s i no_stop).domain ≡ (get_or s' i no_stop).domain
    domain-same i =
        sym (get_or-map (λ (p : Stop). p.domain) s i no_stop)
        ∙ ap (λ (ds : List ℕ). get_or ds i 0) same.domains
        ∙ get_or-map (λ (p : Stop). p.domain) s' i no_stop

    -- what the EXRS in force take from a stop is the same
    hits-alike
        : (i : ℕ)
        → hitting (domain_of (domains r.profile) (get_or s i no_stop).domain ∷ []) (entries_at (search_in First r s) i) (get_or S.stretches i [])
        ≡ hitting (domain_of (domains r.profile) (get_or s i no_stop).domain ∷ []) (entries_at (search_in First r s) i) (get_or T.stretches i [])
    hits-alike i =
        let ds = domain_of (domains r.profile) (get_or s i no_stop).domain ∷ [] in
        let nodes = entries_at (search_in First r s) i in
        ap (hitting ds nodes) (own-exclusions x r s i)
        ∙ hitting_in_force ds nodes x (carried (exrs_at s i))
        ∙ own i
        ∙ sym (hitting_in_force ds nodes y (carried (exrs_at s' i)))
        ∙ sym (ap (hitting ds nodes) (own-exclusions y (with_include r list) s' i))

    place_alike : (i a : ℕ) (b : Bool) → place_allows b S i a ≡ place_allows b T i a
    unfolding search_in exclusions_at excluded_domain
    place_alike i a true =
        let D = domain_of (domains r.profile) (get_or s i no_stop).domain in
        ap₂ (λ (c : Bool) (pin : Option ℕ). not c && keeps_pin pin a)
        (beside (λ (q : Subobject). takes_domain D q.names) S.exclusions T.exclusions (get_or S.stretches i []) (get_or T.stretches i []) everywhere
        (domain_alike (D ∷ []) (entries_at (search_in First r s) i) (get_or S.stretches i []) (get_or T.stretches i []) (hits-alike i) D (Memᴰ.head refl))
        ∙ ap (λ (n : ℕ). excluded_domain (exclusions_at T i) (domain_of (domains r.profile) n)) (domain-same i))
        (same.pins i)
    place_alike i a false = refl

    long : length s ≡ length s'
    long = sym (length-map s (λ (p : Stop). p.domain)) ∙ ap length same.domains ∙ length-map s' (λ (p : Stop). p.domain)

    allowed_alike : (i a : ℕ) → Memᴰ a (entries_at S i) → allowed S i a ≡ allowed T i a
    unfolding search_in exclusions_at excluded_node allowed entries_at
    allowed_alike i a m =
        ap₂ (λ (b c : Bool). not b && c)
        (beside (λ (q : Subobject). takes_node a q.names) S.exclusions T.exclusions (get_or S.stretches i []) (get_or T.stretches i []) everywhere
        (node_alike (domain_of (domains r.profile) (get_or s i no_stop).domain ∷ []) (entries_at (search_in First r s) i) (get_or S.stretches i [])
        (get_or T.stretches i [])
        (hits-alike i)
        a
        (subst (Memᴰ a) (entries-any i) m)))
        (place_alike i a (ltb i (length s)) ∙ ap (λ (n : ℕ). place_allows (ltb i n) T i a) long)
      where
        entries-any : (j : ℕ) → entries_at (search_in x r s) j ≡ entries_at (search_in First r s) j
        entries-any zero = refl
        entries-any (suc j) = refl

    in_rounds : SameFound S T
    unfolding search_in
    in_rounds =
        same-found S s' T.exclusions T.stretches same.domains (λ i a m n. allowed_alike i a m) (accepted-length r s accepted).0

  -- all that counts is in force in both rounds
  pub record AllInForce : Type 0 where
    pub everywhere : (x : Round) → in_force x (subobjects r.exclude) ≡ subobjects r.exclude
    pub own : (i : ℕ) (x : Round) → keep (counts_in x) (own_hits r s i (exrs_at s i)) ≡ own_hits r s i (exrs_at s i)

  exclude_clear : some_desired (subobjects r.exclude) ≡ false → (x : Round) → in_force x (subobjects r.exclude) ≡ subobjects r.exclude
  unfolding in_force some_desired
  exclude_clear c x =
      keep_all (counts_in x) (subobjects r.exclude) (λ q m. clear_counts x q (any_false (λ (z : Subobject). z.top) c m))

  own_clear
      : (ps : List Stop) → some_desired (each (λ (p : Stop). carried p.exrs) ps) ≡ false
      → (i : ℕ) (x : Round) → keep (counts_in x) (own_hits r s i (exrs_at ps i)) ≡ own_hits r s i (exrs_at ps i)
  own_clear ps c i x =
      clear_in_force (domain_of (domains r.profile) (get_or s i no_stop).domain ∷ []) (entries_at (search_in First r s) i) (carried (exrs_at ps i))
      (clear_at ps i c)
      x

  clear_first : some_desired (all_exclusions r.exclude s) ≡ false → AllInForce
  clear_first c = let n = both-clear r.exclude s c in record { everywhere = exclude_clear n.0; own = own_clear s n.1 }

  clear_second : some_desired (all_exclusions r.exclude s') ≡ false → AllInForce
  clear_second c =
      let n = both-clear r.exclude s' c in
      record {
        everywhere = exclude_clear n.0;
        own = λ i x. subst (λ (k : List Subobject). keep (counts_in x) k ≡ k) (sym (same.own i)) (own_clear s' n.1 i x);
      }

  either : (x y : Round) → (x ≡ y) ⊎ AllInForce → SameFound (search_in x r s) (search_in y (with_include r list) s')
  either x y =
      ⊎_elim
      (λ (e : x ≡ y).
      in_rounds x y (ap (λ (z : Round). in_force z (subobjects r.exclude)) e)
      (λ i. ap₂ (λ (z : Round) (k : List Subobject). keep (counts_in z) k) e (same.own i)))
      (λ (n : AllInForce).
      in_rounds x y (n.everywhere x ∙ sym (n.everywhere y))
      (λ i. n.own i x ∙ same.own i ∙ sym (subst (λ (k : List Subobject). keep (counts_in y) k ≡ k) (same.own i) (n.own i y))))

  own_round : SameRound r (with_include r list) s s'
  own_round =
      same-round r (with_include r list) s s' (sym (length-map s (λ (p : Stop). p.domain)) ∙ ap length same.domains ∙ length-map s' (λ (p : Stop). p.domain))
      AllInForce
      either
      clear_first
      clear_second

-- ---- the laws

module _
    (r r' : Request) (sequence sequence' : List Stop) (accepted : Accepted r sequence) (accepted' : Accepted r' sequence')
    (same : SameButOwn r r' sequence sequence') where
  rounds : SameRound r r' sequence sequence'
  rounds =
      let alone : with_include r r'.include ≡ r' =
      λ i.
      record {
        profile = same.profile i;
        ingress = same.ingress i;
        source = same.source i;
        destination = same.destination i;
        include = r'.include;
        exclude = same.exclude i;
        limits = same.limits i;
      } in
      subst (λ (q : Request). SameRound r q sequence sequence') alone
      (own_round r r'.include sequence sequence' accepted
      (record {
        profile = refl;
        ingress = refl;
        source = refl;
        destination = refl;
        exclude = refl;
        limits = refl;
        domains = same.domains;
        pins = same.pins;
        own = same.own;
      }))

  -- whatever X is: only tally and round of the tree may differ
  pub own_stop : SameAnswers r r' × ((room : ℕ) → SameEntries (build_tree r room) (build_tree r' room))
  own_stop = (same-answers r r' sequence sequence' accepted accepted' rounds, same_entries r r' sequence sequence' accepted accepted' rounds)

  -- where X set comes up among all exclusions of both or of neither, nothing differs
  pub own-stop-clear
      : some_desired (all_exclusions r.exclude sequence) ≡ some_desired (all_exclusions r'.exclude sequence')
      → SameAnswers r r' × ((room : ℕ) → build_tree r room ≡ build_tree r' room)
  own-stop-clear e =
      (same-answers r r' sequence sequence' accepted accepted' rounds, same-tree r r' sequence sequence' accepted accepted' rounds (rounds.clear e))

-- ---- how the hypothesis comes about

-- bytes of EXRS whose exclusions take neither the domain of a stop nor an entry node of it take nothing from it
pub idle
    : (r : Request) (sequence : List Stop) (i : ℕ) (exrs : List ℕ)
    → ((q : Subobject) → Memᴰ q (carried exrs)
    → hits (domain_of (domains r.profile) (get_or sequence i no_stop).domain ∷ []) (entries_at (search_in First r sequence) i) q ≡ false)
    → own_hits r sequence i exrs ≡ []
unfolding hitting hits
idle r sequence i exrs none =
    let test = hits (domain_of (domains r.profile) (get_or sequence i no_stop).domain ∷ []) (entries_at (search_in First r sequence) i) in
    keep_none test (map unplaced (carried exrs)) (λ q m. let k = map_mem unplaced (carried exrs) m in ap test k.2 ∙ none k.0 k.1)
