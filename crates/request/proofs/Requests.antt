-- What `RequestIs` gives a caller: where the checks pass, the request is accepted with the query's sequence, and the search it asks for is
-- the query's in every round, so in the one that applies; where they refuse, so does the request. And a query is ready in every round.
use Rattle.std.specs.Prelude.{Result, Ok, Err}
use mathlib.Core.Path.{◌≡◌, sym, ap, ◌∙◌}
use mathlib.Core.List.{List, map}
use Prim.Native.Nat.{ℕ}
use Rattle.model.specs.declared.Refusal.{Refusal}
use Rattle.model.specs.declared.Round.{Round}
use Rattle.model.specs.declared.Round.TheVariants.{First}
use Rattle.model.specs.Profile.{Layout, domains, hops, layout_in}
use Rattle.model.specs.Exclusion.{in_force}
use Rattle.model.specs.Subobject.{subobjects, carried}
use Rattle.model.specs.Sequence.{Stop, refused}
use Rattle.model.specs.Request.{Request, sequence_of, all_exclusions, Accepted, search_in}
use Rattle.model.specs.Rounds.{round_by, round_of, search_of}
use Rattle.laws.specs.Lists.{Lists, lists_of}
use Rattle.laws.specs.Stops.{stops_of}
use Rattle.request.specs.declared.Asked.{Asked}
use Rattle.request.specs.declared.Query.{Query}
use Rattle.list_include.specs.Reading.{read_of}
use Rattle.request.specs.Query.{query_stops, search_for, in_round, round_for, Ready}
use Rattle.request.specs.CheckedRequest.{request_for, RequestIs}

module _ (x : Round) (q : Query) where
  pub ready_in : {L : Layout} {P : List ℕ} {lists : Lists} → Ready L P lists q → Ready L P lists (in_round x q)
  unfolding stops_of
  ready_in r =
      record {
        profile-right = r.profile-right;
        include-right = r.include-right;
        include-short = r.include-short;
        exclude-right = r.exclude-right;
        bandwidth-right = r.bandwidth-right;
        bound-right = r.bound-right;
        some_domain_lem = r.some_domain_lem;
        most = r.most;
        stops-long = r.stops-long;
        known = r.known;
        placed = r.placed;
        apart = r.apart;
      }

module _ (P : List ℕ) (asked : Asked) (I E : List ℕ) (r : Result Query Refusal) (is : RequestIs P asked I E r) where
  abbrev pub req : Request
  req = request_for P asked I E

  pub refused-request : (why : Refusal) → r ≡ Err why → sequence_of req ≡ refused why
  refused-request why e = sym is.means ∙ ap (read_of (query_stops I)) e

  module _ (q : Query) (e : r ≡ Ok q) where
    pub accepted-request : Accepted req (query_stops I q)
    accepted-request = sym is.means ∙ ap (read_of (query_stops I)) e

    search_in_lem : (x : Round) → search_in x req (query_stops I q) ≡ search_for (layout_in P) P (lists_of I E) (in_round x q)
    unfolding search_in stops_of
    search_in_lem x =
        let of = is.query q e in
        λ k. record {
          domains = domains P;
          hops = hops (layout_in P) P;
          sequence = query_stops I q;
          exclusions = in_force x (subobjects E);
          stretches = map (λ (p : Stop). in_force x (carried p.exrs)) (query_stops I q);
          source = (sym of.source-kept k).0;
          destination = (sym of.destination-kept k).0;
          limits = sym of.limits-kept k;
        }

    pub round-request : round_of req (query_stops I q) ≡ round_for (layout_in P) P (lists_of I E) q
    unfolding round_of round_for
    round-request = ap (round_by (all_exclusions E (query_stops I q))) (search_in_lem First)

    pub search-request : search_of req (query_stops I q) ≡ search_for (layout_in P) P (lists_of I E) (in_round (round_for (layout_in P) P (lists_of I E) q) q)
    unfolding search_of
    search-request = (λ k. search_in (round-request k) req (query_stops I q)) ∙ search_in_lem (round_for (layout_in P) P (lists_of I E) q)
