-- What a request's sequence is by its checks, and that a query with that sequence is ready for a search.
use Rattle.std.specs.Prelude.{Ok, Err}
use mathlib.Core.Path.{◌≡◌, refl, sym, ap, subst, ◌∙◌}
use mathlib.Core.List.{List}
use Prim.Native.Nat.{ℕ, ◌<◌}
use native.Mathlib.Omega.{arith}
use Rattle.model.specs.Verdict.{Verdict, Pass}
use Rattle.model.specs.declared.Limits.{Limits}
use Rattle.model.specs.declared.NodeAddress.{NodeAddress}
use Rattle.model.specs.declared.Refusal.{Refusal}
use Rattle.model.specs.declared.Round.TheVariants.{First}
use Rattle.model.specs.Profile.{layout_in, domain_count}
use Rattle.model.specs.Sequence.{refused, good, meaning}
use Rattle.model.specs.Request.{Request, reading_input, provided, request_verdict, sequence_of}
use Rattle.laws.specs.Lists.{lists_of}
use Rattle.laws.specs.Stops.{stops_of}
use Rattle.laws.proofs.Lists.{mem-map, mem_count_from}
use Rattle.laws.proofs.Records.{length-domains}
use Rattle.laws.proofs.AcceptedRequest.{PassedRequest}
use Rattle.laws.proofs.SequenceDomains.{meaning-different, meaning-inside}
use Rattle.list_include.specs.declared.state.State.{State}
use Rattle.list_include.specs.Reading as R
use Rattle.request.specs.declared.Asked.{Asked}
use Rattle.request.specs.declared.Query.{Query}
use Rattle.request.specs.Query.{query_domain, query_stop, query_stops, Ready}
use Rattle.request.specs.CheckedRequest.{request_for, QueryIs, RequestIs}

module _ (req : Request) where
  pub sequence-refused : (r : Refusal) → request_verdict req ≡ Err r → sequence_of req ≡ refused r
  unfolding sequence_of
  sequence-refused r e = ap (λ (v : Verdict). provided v (meaning (reading_input req.profile) req.ingress req.include)) e

  pub sequence-passed : request_verdict req ≡ Pass → sequence_of req ≡ meaning (reading_input req.profile) req.ingress req.include
  unfolding sequence_of
  sequence-passed e = ap (λ (v : Verdict). provided v (meaning (reading_input req.profile) req.ingress req.include)) e

-- a refusal of the checks or of the include list
pub refused-is
    : (profile : List ℕ) (asked : Asked) (include exclude : List ℕ) (x : Refusal) → sequence_of (request_for profile asked include exclude) ≡ refused x
    → RequestIs profile asked include exclude (Err x)
refused-is profile asked include exclude x is = record { means = sym is; query = λ q p. absurd (cc) }

-- the query with the sequence of a reading's state
abbrev pub query_of : State → NodeAddress → NodeAddress → Limits → Query
query_of st source destination limits =
    record {
      count = st.count;
      stops = st.stops;
      source = source;
      destination = destination;
      limits = limits;
      round = First;
    }

module _ (req : Request) (st : State) (source destination : NodeAddress) where
  abbrev q : Query
  q = query_of st source destination req.limits

  module _ (passed : PassedRequest req) (sound : R.SoundState st) (placed : R.Placed req.include st)
      (means : meaning (reading_input req.profile) req.ingress req.include ≡ good (R.state_stops req.include st)) where
    inside : (i : ℕ) → i < q.count → query_domain q i < domain_count req.profile
    unfolding stops_of
    inside i h =
        subst (λ (n : ℕ). query_domain q i < n) (length-domains req.profile)
        (meaning-inside (reading_input req.profile) req.ingress req.include (query_stops req.include q) means
        (subst (λ (n : ℕ). req.ingress < n) (sym (length-domains req.profile)) passed.ingress)
        (query_stop req.include q i)
        (mem-map (query_stop req.include q) (mem_count_from 0 q.count i (omega arith) (omega arith))))

    pub ready_query : Ready (layout_in req.profile) req.profile (lists_of req.include req.exclude) q
    ready_query =
        record {
          profile-right = passed.profile;
          include-right = passed.include-form;
          include-short = passed.include-size;
          exclude-right = passed.exclude-form;
          bandwidth-right = passed.bandwidth;
          bound-right = passed.bound;
          some_domain_lem = sound.some_domain_lem;
          most = sound.most;
          stops-long = sound.stops-long;
          known = inside;
          placed = placed;
          apart = meaning-different (reading_input req.profile) req.ingress req.include (query_stops req.include q) means;
        }

-- the query of a request whose include list is read
pub query-is
    : (P : List ℕ) (asked : Asked) (I E : List ℕ) (st : State) → PassedRequest (request_for P asked I E) → R.SoundState st → R.Placed I st
    → sequence_of (request_for P asked I E) ≡ meaning (reading_input P) asked.ingress.0 I → meaning (reading_input P) asked.ingress.0 I ≡ good (R.state_stops I st)
    → RequestIs P asked I E (Ok (query_of st asked.source asked.destination asked.limits))
query-is P asked I E st passed sound placed left means =
    record {
      means = sym (left ∙ means);
      query =
          λ q e.
          let same : query_of st asked.source asked.destination asked.limits ≡ q = cc in
          subst (QueryIs P asked I E) same
          (record {
            source-kept = refl;
            destination-kept = refl;
            limits-kept = refl;
            in_first = refl;
            ready = ready_query (request_for P asked I E) st asked.source asked.destination passed sound placed means;
          });
    }
