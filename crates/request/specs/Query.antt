-- What the code's query stands for, over the definitions of `model`.
use Rattle.std.specs.Prelude.{◌≡◌, true, List, map, ℕ, ◌-◌, ◌≤◌, ◌<◌, length}
use Rattle.model.specs.Verdict.{Pass}
use Rattle.model.specs.declared.ListKind.TheVariants.{Include, Exclude}
use Rattle.model.specs.declared.Round.{Round}
use Rattle.model.specs.declared.Round.TheVariants.{First}
use Rattle.model.specs.Lists.{all_different}
use Rattle.model.specs.Profile.{Layout, domain_count, domains, hops, profile_verdict}
use Rattle.model.specs.Subobject.{form_verdict, subobjects, carried}
use Rattle.model.specs.Sequence.{Stop, domains_of}
use Rattle.model.specs.Exclusion.{in_force}
use Rattle.model.specs.Floats.{in_range}
use Rattle.model.specs.Request.{Search, all_exclusions}
use Rattle.model.specs.Rounds.{round_by}
use Rattle.laws.specs.Lists.{Lists}
use Rattle.laws.specs.Exrs.{Stretch}
use Rattle.laws.specs.Stops.{domain_in, named_in, stretch_start, stop_in, stops_of}
use Rattle.request.specs.declared.Query.{Query}

-- domain i of the sequence, alone and with its entry constraint and its EXRS, and the whole sequence, over the include list
abbrev pub query_domain : Query → ℕ → ℕ
query_domain q = domain_in q.stops

abbrev pub query_stop : List ℕ → Query → ℕ → Stop
query_stop include q = stop_in include q.stops

abbrev pub query_stops : List ℕ → Query → List Stop
query_stops include q = stops_of include q.count q.stops

-- where the subobject stands that named the last domain
abbrev pub last_named : Query → ℕ
last_named q = named_in q.stops (q.count - 1)

-- the search that a query stands for in its round, over a profile and the two lists
abbrev pub search_for : Layout → List ℕ → Lists → Query → Search
search_for L profile lists q =
    record {
      domains = domains profile;
      hops = hops L profile;
      sequence = query_stops lists.include q;
      exclusions = in_force q.round (subobjects lists.exclude);
      stretches = map (λ (p : Stop). in_force q.round (carried p.exrs)) (query_stops lists.include q);
      source = q.source.0;
      destination = q.destination.0;
      limits = q.limits;
    }

-- the same query in a round
abbrev pub in_round : Round → Query → Query
in_round x q =
    record {
      count = q.count;
      stops = q.stops;
      source = q.source;
      destination = q.destination;
      limits = q.limits;
      round = x;
    }

-- the round that applies to a query, whatever round it is in
unfoldable pub round_for : Layout → List ℕ → Lists → Query → Round
round_for L profile lists q = round_by (all_exclusions lists.exclude (query_stops lists.include q)) (search_for L profile lists (in_round First q))

-- what the checks of a request leave: a right profile, two right lists, limits in range, and 1 to 16 different domains of the profile, the part of the include list
-- before each of which is whole subobjects
pub record Ready (L : Layout) (profile : List ℕ) (lists : Lists) (q : Query) : Type 0 where
  pub profile-right : profile_verdict L profile ≡ Pass
  pub include-right : form_verdict Include lists.include ≡ Pass
  pub include-short : length lists.include ≤ 1024
  pub exclude-right : form_verdict Exclude lists.exclude ≡ Pass
  pub bandwidth-right : in_range q.limits.bandwidth ≡ true
  pub bound-right : q.limits.bounded ≡ true → in_range q.limits.bound ≡ true
  pub some_domain_lem : 1 ≤ q.count
  pub most : q.count ≤ 16
  pub stops-long : length q.stops ≡ 16
  pub known : (i : ℕ) → i < q.count → query_domain q i < domain_count profile
  pub placed : (i : ℕ) → i < q.count → Stretch lists.include (stretch_start q.stops i) (named_in q.stops i)
  pub apart : all_different (domains_of (query_stops lists.include q)) ≡ true
