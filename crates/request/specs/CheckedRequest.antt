-- What the checks of a request answer, over `Request` of `model`.
use Rattle.std.specs.Prelude.{◌≡◌, List, ℕ, Result, Ok}
use Rattle.model.specs.declared.Limits.{Limits}
use Rattle.model.specs.declared.Refusal.{Refusal}
use Rattle.model.specs.declared.Round.TheVariants.{First}
use Rattle.model.specs.Verdict.{Verdict, ◌and_then◌}
use Rattle.model.specs.Profile.{layout_in, verdict_on}
use Rattle.model.specs.Request.{Request, ingress_verdict, sequence_of}
use Rattle.laws.specs.Lists.{lists_of}
use Rattle.list_include.specs.Reading.{read_of}
use Rattle.request.specs.declared.Asked.{Asked}
use Rattle.request.specs.declared.Query.{Query}
use Rattle.request.specs.Query.{query_stops, Ready}

-- the request that a call's parameters stand for
abbrev pub request_of : List ℕ → ℕ → ℕ → ℕ → List ℕ → List ℕ → Limits → Request
request_of profile ingress source destination include exclude limits =
    record {
      profile = profile;
      ingress = ingress;
      source = source;
      destination = destination;
      include = include;
      exclude = exclude;
      limits = limits;
    }

-- and with what is asked as one
abbrev pub request_for : List ℕ → Asked → List ℕ → List ℕ → Request
request_for profile asked include exclude = request_of profile asked.ingress.0 asked.source.0 asked.destination.0 include exclude asked.limits

-- the first of the checks of `request_verdict`: the profile with the ingress domain in it
abbrev pub start_verdict : List ℕ → ℕ → Verdict
start_verdict profile ingress = verdict_on profile and_then ingress_verdict profile ingress

-- a query in the first round that is ready for a search, of which source, destination and limits are those that are asked for
pub record QueryIs (profile : List ℕ) (asked : Asked) (include exclude : List ℕ) (q : Query) : Type 0 where
  pub source-kept : q.source ≡ asked.source
  pub destination-kept : q.destination ≡ asked.destination
  pub limits-kept : q.limits ≡ asked.limits
  pub in_first : q.round ≡ First
  pub ready : Ready (layout_in profile) profile (lists_of include exclude) q

-- the refusal, or such a query, whose sequence is the request's
pub record RequestIs (profile : List ℕ) (asked : Asked) (include exclude : List ℕ) (r : Result Query Refusal) : Type 0 where
  pub means : read_of (query_stops include) r ≡ sequence_of (request_for profile asked include exclude)
  pub query : (q : Query) → r ≡ Ok q → QueryIs profile asked include exclude q
