-- What a request holds, its checks 20 to 22 and those of its lists in document 01's order, and what a search needs of an accepted one in a round.
use Rattle.std.specs.Prelude.{ℕ, ◌≡◌, Bool, not, ◌&&◌, List, ◌++◌, map, length, leb, ltb, Ok, Err}
use Rattle.model.specs.declared.Domain.{Domain}
use Rattle.model.specs.declared.Hop.{Hop}
use Rattle.model.specs.declared.Limits.{Limits}
use Rattle.model.specs.declared.Round.{Round}
use Rattle.model.specs.declared.ListKind.TheVariants.{Include, Exclude}
use Rattle.model.specs.Lists.{each}
use Rattle.model.specs.Verdict.{Verdict, Pass, refuse_if, ◌and_then◌}
use Rattle.model.specs.Profile.{Layout, layout_in, domain_count, profile_verdict, domains, hops}
use Rattle.model.specs.Subobject.{Subobject, form_verdict, subobjects, carried}
use Rattle.model.specs.Sequence.{Stop, Reading, refused, good, ReadingInput, meaning}
use Rattle.model.specs.Exclusion.{in_force}
use Rattle.model.specs.Floats.{in_range, float_of_bits}

pub record Request : Type 0 where
  pub profile : List ℕ
  pub ingress : ℕ
  pub source : ℕ
  pub destination : ℕ
  pub include : List ℕ
  pub exclude : List ℕ
  pub limits : Limits

-- the layout of the request's profile
abbrev pub layout_for : Request → Layout
layout_for r = layout_in r.profile

-- limits given by bits
abbrev pub limits_of_bits : ℕ → Bool → ℕ → Limits
limits_of_bits bandwidth counts bound = record { bandwidth = float_of_bits bandwidth; bound = float_of_bits bound; bounded = counts }

-- ---- single checks

-- ingress index too large
abbrev pub ingress_verdict : List ℕ → ℕ → Verdict
ingress_verdict profile ingress = refuse_if (leb (domain_count profile) ingress) 20 0

-- float bits out of range; a bound that doesn't count isn't looked at
abbrev pub limits_verdict : Limits → Verdict
limits_verdict l = refuse_if (not (in_range l.bandwidth)) 21 0 and_then refuse_if (l.bounded && not (in_range l.bound)) 21 1

-- a list over 1,024 bytes
abbrev pub size_verdict : List ℕ → ℕ → Verdict
size_verdict list place = refuse_if (ltb 1024 (length list)) 22 place

-- both lists: their sizes, and their form
abbrev pub sizes_verdict : List ℕ → List ℕ → Verdict
sizes_verdict include exclude = size_verdict include 0 and_then size_verdict exclude 1

abbrev pub forms_verdict : List ℕ → List ℕ → Verdict
forms_verdict include exclude = form_verdict Include include and_then form_verdict Exclude exclude

-- what of a profile an include list is read by
abbrev pub reading_input : List ℕ → ReadingInput
reading_input profile = record { domains = domains profile }

-- a reading that goes on only where the checks pass
abbrev pub provided : {A : Type 0} → Verdict → Reading A → Reading A
provided (Ok _) reading = reading
provided (Err r) reading = refused r

-- ---- the checks of a whole request before 33: profile, 20 to 22, form of the include list, then of the exclude list, meaning of the include list

-- with the checks of a reply beside it in their places: those of its METRICs behind 21, that of its ERO behind the form of the lists
abbrev pub request_verdict_with : Verdict → Verdict → Request → Verdict
request_verdict_with metrics ero r =
    profile_verdict (layout_for r) r.profile
    and_then ingress_verdict r.profile r.ingress
    and_then limits_verdict r.limits
    and_then metrics
    and_then sizes_verdict r.include r.exclude
    and_then forms_verdict r.include r.exclude
    and_then ero

-- a request alone
unfoldable pub request_verdict : Request → Verdict
request_verdict r = request_verdict_with Pass Pass r

-- the sequence that a request asks for, or its refusal
unfoldable pub sequence_of : Request → Reading (List Stop)
sequence_of r = provided (request_verdict r) (meaning (reading_input r.profile) r.ingress r.include)

-- accepted means that no check before 33 refuses
abbrev pub Accepted : Request → List Stop → Type 0
Accepted r sequence = sequence_of r ≡ good sequence

-- ---- what a search needs of an accepted request

-- all exclusions of a request with this exclude list and this sequence: those of the list, and those that the EXRS of each domain carry
unfoldable pub all_exclusions : List ℕ → List Stop → List Subobject
all_exclusions exclude sequence = subobjects exclude ++ each (λ (p : Stop). carried p.exrs) sequence

-- `exclusions` count at every place, and of `stretches` for each domain of the sequence those at its own place alone
pub record Search : Type 0 where
  pub domains : List Domain
  pub hops : List Hop
  pub sequence : List Stop
  pub exclusions : List Subobject
  pub stretches : List (List Subobject)
  pub source : ℕ
  pub destination : ℕ
  pub limits : Limits

-- the search that a request asks for in a round, with the exclusions in force then
unfoldable pub search_in : Round → Request → List Stop → Search
search_in x r sequence =
    record {
      domains = domains r.profile;
      hops = hops (layout_for r) r.profile;
      sequence = sequence;
      exclusions = in_force x (subobjects r.exclude);
      stretches = map (λ (p : Stop). in_force x (carried p.exrs)) sequence;
      source = r.source;
      destination = r.destination;
      limits = r.limits;
    }
