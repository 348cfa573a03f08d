-- The sequence that a query stands for, place by place: its stops, its legs and the excluded domains; and that a leg made of the query's fields stands for its place.
-- From the list of stops by index.
use mathlib.Core.Path.{◌≡◌, refl, sym, ap, ap₂, subst, subst₂, ◌∙◌}
use mathlib.Core.Bool.{Bool, true, false}
use mathlib.Core.List.{List, [], ◌∷◌, ◌++◌, append-nil, map}
use Prim.Native.Nat.{ℕ, zero, suc, ◌+◌, ◌≤◌, ◌<◌}
use native.Mathlib.Nat.{zero-add}
use native.Mathlib.Omega.{arith}
use lib.Dec.{ltb}
use lib.ListN.{length, get_or, take, length-map, get_or-map}
use lib.Seq.{ext_get_or, length-take-le, get_or-take}
use borrow.Author.Tests.{ltb-true, ltb-false}
use Rattle.model.specs.declared.DomainIndex.{DomainIndex}
use Rattle.model.specs.declared.NamedStop.{NamedStop}
use Rattle.std.specs.Prelude.{None}
use Rattle.model.specs.Lists.{all_different, count_from}
use Rattle.model.specs.Profile.{Layout, domain_start, domain_at, domains}
use Rattle.model.specs.Sequence.{Stop, domain_of, domains_of, no_domain}
use Rattle.model.specs.declared.Round.{Round}
use Rattle.model.specs.Subobject.{Subobject, subobjects, carried}
use Rattle.model.specs.Exclusion.{in_force, excluded_domain}
use Rattle.model.specs.Request.{Search}
use Rattle.model.specs.Path.{Leg, legs, leg_at, no_leg, no_stop, exclusions_at}
use Rattle.laws.specs.Lists.{Lists}
use Rattle.laws.specs.Exrs.{Stretch, carried_in}
use Rattle.laws.specs.Stops.{pin_as, stop_at, named_in, stretch_start, stops_of}
use Rattle.laws.proofs.Exrs.{carried-there}
use Rattle.list_exclusion.specs.Place.{exclusions_there}
use Rattle.laws.proofs.Accepted.{accepted}
use Rattle.laws.proofs.AreaLengths.{fits-short}
use Rattle.laws.proofs.Stops.{stops-length, stop_at_lem}
use Rattle.laws.proofs.ProfileLists.{length-map-count_from, get_or-map-count_from}
use Rattle.laws.proofs.Records.{domain_at_lem}
use Rattle.profile_hop_range.specs.Ranges.{PairRange}
use Rattle.tree_levels.specs.Levels.{indexes_of, Several, Covers, LaidOut}
use Rattle.tree_levels.proofs.Legs.{leg_on, leg-last}
use Rattle.request.specs.declared.Query.{Query}
use Rattle.request.specs.Query.{query_stop, query_stops, search_for, Ready}
use Rattle.request.specs.Query as Q
use Rattle.tree_step.specs.declared.Leg as Coded
use Rattle.tree_vspt.specs.Leg.{next_if, next_place, LegFor}

-- ---- a query's sequence by index

pub stops-long : (include : List ℕ) (q : Query) → length (query_stops include q) ≡ q.count
stops-long include q = stops-length include q.stops q.count

pub stop_of : (include : List ℕ) (q : Query) (i : ℕ) → i < q.count → get_or (query_stops include q) i no_stop ≡ query_stop include q i
stop_of include q = stop_at_lem include q.stops q.count

-- what the EXRS of domain i take away in the query's round
own_stretch : (include : List ℕ) (q : Query) (i : ℕ) → i < q.count
    → get_or (map (λ (p : Stop). in_force q.round (carried p.exrs)) (query_stops include q)) i [] ≡ in_force q.round (carried (get_or (query_stops include q) i no_stop).exrs)
own_stretch include q i h = go (query_stops include q) i (omega (arith, stops-long include q))
  where
    go : (ps : List Stop) (j : ℕ) → j < length ps → get_or (map (λ (p : Stop). in_force q.round (carried p.exrs)) ps) j [] ≡ in_force q.round (carried (get_or ps j no_stop).exrs)
    go [] j l = absurd (omega arith)
    go (p ∷ ps) zero l = refl
    go (p ∷ ps) (suc j) l = go ps j (omega arith)

-- the leg from place i goes to the place after it
pub leg_of : (include : List ℕ) (q : Query) (i : ℕ) → i < q.count → get_or (legs (query_stops include q)) i no_leg ≡ record { from = Q.query_domain q i; to = Q.query_domain q (next_place q.count i) }
leg_of include q i h = go (ltb (suc i) q.count) refl
  where
    go : (b : Bool) → ltb (suc i) q.count ≡ b → get_or (legs (query_stops include q)) i no_leg ≡ record { from = Q.query_domain q i; to = Q.query_domain q (next_if b i) }
    go true t =
        let k = ltb-true (suc i) q.count t in
        leg_on (query_stops include q) i (omega (arith, stops-long include q))
        ∙ ap₂ {C = Leg} (λ (x y : Stop). record { from = x.domain; to = y.domain }) (stop_of include q i h) (stop_of include q (suc i) k)
    go false f =
        let k = ltb-false (suc i) q.count f in
        leg-last (query_stops include q) i (omega (arith, stops-long include q))
        ∙ ap {B = Leg} (λ (x : Stop). record { from = x.domain; to = x.domain }) (stop_of include q i h)

-- ---- the leg that the code makes

module _ (L : Layout) (s : List ℕ) (lists : Lists) (q : Query) (ready : Ready L s lists q) (i : ℕ) (h : i < q.count) where
  -- its domain's record lies in the file
  pub domain-inside : domain_start (Q.query_domain q i) + 20 ≤ length s
  domain-inside =
      let a = accepted L s ready.profile-right in
      let k = ready.known i h in
      omega (arith, a.sized)

  pub area-short : (domain_at s (Q.query_domain q i)).length ≤ 13
  area-short = fits-short _ _ ((accepted L s ready.profile-right).domain (Q.query_domain q i) (ready.known i h)).area_fits

  pub record LegMade (starts firsts lasts : List ℕ) (leg : Coded.Leg) : Type 0 where
    pub from_made : leg.from ≡ (stop_at q.stops i).domain
    pub to_made : leg.to ≡ (stop_at q.stops (next_place q.count i)).domain
    pub round_made : leg.round ≡ q.round
    pub stretch_made : Stretch lists.include leg.exrs leg.named
    pub carried_made : carried_in lists.include leg.exrs leg.named ≡ carried_in lists.include (stretch_start q.stops i) (named_in q.stops i)
    pub excluded_made : leg.excluded ≡ excluded_domain (exclusions_there q.round lists leg.exrs leg.named) (domain_at s (Q.query_domain q i))
    pub pin_made : leg.pin ≡ (stop_at q.stops i).pin
    pub first_made : leg.hops.first ≡ get_or firsts i 0
    pub last_made : leg.hops.last ≡ get_or lasts i 0
    pub start_made : leg.start ≡ get_or starts i 0
    pub next_made : leg.next ≡ get_or starts (suc i) 0
    pub end_made : leg.end ≡ get_or starts (suc (suc i)) 0

  -- what counts there is what the exclude list and the EXRS of the place's domain take away
  exclusions-there
      : (leg : Coded.Leg) → carried_in lists.include leg.exrs leg.named ≡ carried_in lists.include (stretch_start q.stops i) (named_in q.stops i)
      → exclusions_there q.round lists leg.exrs leg.named ≡ exclusions_at (search_for L s lists q) i
  unfolding exclusions_at
  exclusions-there leg same =
      let own = ready.placed i h in
      let x = q.round in
      ap {B = List Subobject} (λ (l : List Subobject). in_force x (subobjects lists.exclude) ++ l)
      (ap (in_force x) (same ∙ sym (carried-there lists.include (stretch_start q.stops i) (named_in q.stops i) own.inside own.right))
      ∙ sym (ap (λ (p : Stop). in_force x (carried p.exrs)) (stop_of lists.include q i h))
      ∙ sym (own_stretch lists.include q i h))

  pub leg-for
      : (addresses starts firsts lasts : List ℕ) (tally : ℕ)
      → LaidOut (search_for L s lists q) L s addresses starts firsts lasts tally
      → (leg : Coded.Leg) → LegMade starts firsts lasts leg
      → LegFor L s (search_for L s lists q) lists i leg
  leg-for addresses starts firsts lasts tally laid leg made =
      let S : Search = search_for L s lists q in
      let n = stops-long lists.include q in
      let count = exclusions-there leg made.carried_made in
      let from : leg.from.0 ≡ (leg_at S i).from = ap (λ (d : DomainIndex). d.0) made.from_made ∙ sym (ap (λ (l : Leg). l.from) (leg_of lists.include q i h)) in
      let to : leg.to.0 ≡ (leg_at S i).to = ap (λ (d : DomainIndex). d.0) made.to_made ∙ sym (ap (λ (l : Leg). l.to) (leg_of lists.include q i h)) in
      record {
        is =
            record {
              from_is = from;
              to_is = to;
              exclusions_are = ap (λ (x : Round). exclusions_there x lists leg.exrs leg.named) made.round_made ∙ count;
              excluded-is =
                  made.excluded_made
                  ∙ ap₂ excluded_domain count
                  (sym (domain_at_lem s (Q.query_domain q i) no_domain (ready.known i h)) ∙ ap (λ (p : Stop). domain_of (domains s) p.domain) (sym (stop_of lists.include q i h)));
              pin-is = ap pin_as made.pin_made ∙ ap (λ (p : Stop). p.pin) (sym (stop_of lists.include q i h));
              start_is = made.start_made ∙ laid.starts_are i (omega arith);
              next-is = made.next_made ∙ laid.starts_are (suc i) (omega arith);
              end_is = made.end_made ∙ laid.starts_are (suc (suc i)) (omega arith);
            };
        stretch = made.stretch_made;
        range =
            subst₂ (λ (x y : ℕ). PairRange L s x y leg.hops.first leg.hops.last) (sym from) (sym to)
            (subst₂ (λ (x y : ℕ). PairRange L s (leg_at S i).from (leg_at S i).to x y) (sym made.first_made) (sym made.last_made)
            (laid.ranges i (omega arith)));
      }

-- behind the last domain only the exclude list counts
pub end-exclusions
    : (L : Layout) (s : List ℕ) (lists : Lists) (q : Query)
    → exclusions_at (search_for L s lists q) (length (query_stops lists.include q)) ≡ in_force q.round (subobjects lists.exclude)
unfolding exclusions_at
end-exclusions L s lists q =
    ap {B = List Subobject} (λ (l : List Subobject). in_force q.round (subobjects lists.exclude) ++ l) (past (query_stops lists.include q))
    ∙ append-nil (in_force q.round (subobjects lists.exclude))
  where
    past : (ps : List Stop) → get_or (map (λ (p : Stop). in_force q.round (carried p.exrs)) ps) (length ps) [] ≡ []
    past [] = refl
    past (p ∷ ps) = past ps

-- ---- the query's domains as a list

listed : (include : List ℕ) (q : Query) (i n : ℕ) → map (λ (p : Stop). p.domain) (map (query_stop include q) (count_from i n)) ≡ map (Q.query_domain q) (count_from i n)
unfolding count_from
listed include q i zero = refl
listed include q i (suc n) = ap {B = List ℕ} (λ (l : List ℕ). Q.query_domain q i ∷ l) (listed include q (suc i) n)

pub domains-listed : (include : List ℕ) (q : Query) → q.count ≤ length q.stops → domains_of (query_stops include q) ≡ indexes_of q.count q.stops
unfolding stops_of
domains-listed include q h =
    let n = q.count in
    let index : NamedStop → ℕ = λ p. p.domain.0 in
    let none : NamedStop = record { domain = record { 0 = 0 }; pin = None; named = 0 } in
    listed include q 0 n
    ∙ ext_get_or 0 (map (Q.query_domain q) (count_from 0 n)) (indexes_of n q.stops)
    (length-map-count_from (Q.query_domain q) 0 n ∙ sym (length-map (take n q.stops) index ∙ length-take-le n q.stops h))
    (λ i l.
    let below : i < n = subst (λ (m : ℕ). i < m) (length-map-count_from (Q.query_domain q) 0 n) l in
    get_or-map-count_from (Q.query_domain q) 0 n i 0 below
    ∙ ap (Q.query_domain q) (zero-add i)
    ∙ sym (get_or-map index (take n q.stops) i none ∙ ap index (get_or-take n q.stops i none below)))

-- a ready query is one that can be laid out
module _ (L : Layout) (s : List ℕ) (lists : Lists) (q : Query) (ready : Ready L s lists q) where
  few_enough : q.count ≤ length q.stops
  few_enough = omega (arith, ready.most, ready.stops-long)

  pub several : Several q.stops q.count
  several =
      record {
        some = ready.some_domain_lem;
        most = ready.most;
        cells = ready.stops-long;
        different = ap all_different (sym (domains-listed lists.include q few_enough)) ∙ ready.apart;
      }

  pub covers : Covers (search_for L s lists q) L s q.stops q.count q.source.0 q.destination.0
  covers = record { hops_are = refl; domains_are = domains-listed lists.include q few_enough; source_is = refl; destination-is = refl }
