-- The fields of a PCReq, the request that it carries, and the whole outcome of each call that takes one: document 02's request [3].
use Rattle.std.specs.Prelude.{ℕ, ◌+◌, ◌-◌, ◌%◌, Bool, not, cond, List, [], ◌∷◌, length, eqb, Result, Ok, Err}
use Rattle.model.specs.declared.Refusal.{Refusal}
use Rattle.model.specs.declared.Limits.{Limits}
use Rattle.model.specs.declared.TreeEntry.{TreeEntry}
use Rattle.model.specs.Bytes.{number, part}
use Rattle.model.specs.Verdict.{Verdict, refuse_if, ◌and_then◌}
use Rattle.model.specs.Request.{Request, limits_of_bits, sizes_verdict, forms_verdict}
use Rattle.model.specs.Answers.{Numbers, refused4}
use Rattle.model.specs.Calls.{Outcome, nothing, room_verdict, build_tree, first, next}
use Rattle.model.specs.Series.{Kind, first_call, next_call, Call, Reply, reply_to, last_after}
use Rattle.pcep_model.specs.declared.Extent.{Extent}
use Rattle.pcep_model.specs.declared.MessageKind.TheVariants.{Pcreq}
use Rattle.pcep_model.specs.declared.PcreqFields.{PcreqFields}
use Rattle.pcep_model.specs.Objects.{RP, END-POINTS, BANDWIDTH, IRO, XRO, size_at, first_object, message_verdict}
use Rattle.pcep_model.specs.Metrics.{Metric, metrics, value_at, out_of_range, wrong_metric, bound_metric}

-- ---- fields, each of the first object of its kind

-- RP: flags, of which O, B, R and Pri are assigned, then the request-ID; those of the first one count
abbrev pub rp_flags_at : List ℕ → ℕ → ℕ
rp_flags_at s at = number 4 s (at + 4) % 64

abbrev pub request_id_at : List ℕ → ℕ → ℕ
request_id_at s at = number 4 s (at + 8)

abbrev pub rp_flags_of : List ℕ → ℕ
rp_flags_of s = rp_flags_at s (first_object RP s)

abbrev pub request_id_of : List ℕ → ℕ
request_id_of s = request_id_at s (first_object RP s)

abbrev pub source_of : List ℕ → ℕ
source_of s = number 4 s (first_object END-POINTS s + 4)

abbrev pub destination_of : List ℕ → ℕ
destination_of s = number 4 s (first_object END-POINTS s + 8)

-- no BANDWIDTH is 0.0
abbrev pub bits_at : ℕ → ℕ → ℕ
bits_at at bits = cond (eqb at 0) 0 bits

abbrev pub bandwidth_of : List ℕ → ℕ
bandwidth_of s = bits_at (first_object BANDWIDTH s) (number 4 s (first_object BANDWIDTH s + 4))

-- the list that an object holds behind its fixed part; an object that isn't there holds an empty one
abbrev pub extent_of : List ℕ → ℕ → ℕ → Extent
extent_of s at fixed = cond (eqb at 0) (record { start = 0; size = 0 }) (record { start = at + fixed; size = size_at s at - fixed })

abbrev pub include_extent : List ℕ → Extent
include_extent s = extent_of s (first_object IRO s) 4

-- an XRO has flags before its subobjects, which aren't looked at
abbrev pub exclude_extent : List ℕ → Extent
exclude_extent s = extent_of s (first_object XRO s) 8

abbrev pub list_in : List ℕ → Extent → List ℕ
list_in s e = part s e.start e.size

abbrev pub pcreq_fields : List ℕ → PcreqFields
pcreq_fields s =
    record {
      id = request_id_of s;
      flags = rp_flags_of s;
      source = record { 0 = source_of s };
      destination = record { 0 = destination_of s };
      bandwidth = bandwidth_of s;
      metrics = length (metrics s);
      include = include_extent s;
      exclude = exclude_extent s;
    }

-- ---- read_pcreq: the checks whose inputs it takes, then the capacity for the METRICs

-- others: place, request-ID, RP flags, source, destination, bandwidth bits, METRICs, then offset and length of the include list and of the exclude list
abbrev pub numbers_of_pcreq : Result PcreqFields Refusal → Numbers
numbers_of_pcreq (Ok f) =
    record {
      answer = 0;
      others =
          0
          ∷ f.id
          ∷ f.flags
          ∷ f.source.0
          ∷ f.destination.0
          ∷ f.bandwidth
          ∷ f.metrics
          ∷ f.include.start
          ∷ f.include.size
          ∷ f.exclude.start
          ∷ f.exclude.size
          ∷ [];
    }
numbers_of_pcreq (Err r) = record { answer = r.number; others = r.place ∷ 0 ∷ 0 ∷ 0 ∷ 0 ∷ 0 ∷ 0 ∷ 0 ∷ 0 ∷ 0 ∷ 0 ∷ [] }

-- 21 at place 0 for the BANDWIDTH, 21 at place 1 for any METRIC
abbrev pub floats_by : ℕ → Bool → Verdict
floats_by bandwidth wrong = refuse_if (out_of_range bandwidth) 21 0 and_then refuse_if wrong 21 1

abbrev pub floats_verdict : List ℕ → Verdict
floats_verdict s = floats_by (bandwidth_of s) (not (eqb (wrong_metric s) 0))

unfoldable pub pcreq_verdict : List ℕ → ℕ → Verdict
pcreq_verdict s room =
    message_verdict Pcreq s
    and_then floats_verdict s
    and_then sizes_verdict (list_in s (include_extent s)) (list_in s (exclude_extent s))
    and_then forms_verdict (list_in s (include_extent s)) (list_in s (exclude_extent s))
    and_then room_verdict (length (metrics s)) room

abbrev pub answer_pcreq : Verdict → List ℕ → Outcome Metric
answer_pcreq (Err r) s = nothing (numbers_of_pcreq (Err r))
answer_pcreq (Ok _) s = record { numbers = numbers_of_pcreq (Ok (pcreq_fields s)); written = metrics s }

unfoldable pub read_pcreq : List ℕ → ℕ → Outcome Metric
read_pcreq s room = answer_pcreq (pcreq_verdict s room) s

-- ---- the request that a PCReq carries, with the profile and the ingress domain beside it

-- The METRIC that is handed on as the bound: the first with B set; but one out of range, whatever its flags, is refused by the bound's number and place, so
-- it goes first. (Law `metrics_judged`.)
abbrev pub judged_metric : List ℕ → ℕ
judged_metric s = cond (eqb (wrong_metric s) 0) (bound_metric s) (wrong_metric s)

abbrev pub carried_limits : List ℕ → Limits
carried_limits s = limits_of_bits (bandwidth_of s) (not (eqb (judged_metric s) 0)) (bits_at (judged_metric s) (value_at s (judged_metric s)))

abbrev pub carried : List ℕ → ℕ → List ℕ → Request
carried profile ingress s =
    record {
      profile = profile;
      ingress = ingress;
      source = source_of s;
      destination = destination_of s;
      include = list_in s (include_extent s);
      exclude = list_in s (exclude_extent s);
      limits = carried_limits s;
    }

-- ---- tree, first and next through a PCReq: 36 to 40, then what the call answers on the request that is carried

abbrev pub behind : {A : Type 0} → Verdict → Outcome A → Outcome A
behind (Err r) o = nothing (refused4 r)
behind (Ok _) o = o

unfoldable pub pcreq_tree : List ℕ → ℕ → List ℕ → ℕ → Outcome TreeEntry
pcreq_tree profile ingress s room = behind (message_verdict Pcreq s) (build_tree (carried profile ingress s) room)

unfoldable pub pcreq_first : List ℕ → ℕ → List ℕ → ℕ → Outcome ℕ
pcreq_first profile ingress s room = behind (message_verdict Pcreq s) (first (carried profile ingress s) room)

unfoldable pub pcreq_next : List ℕ → ℕ → List ℕ → List ℕ → ℕ → Outcome ℕ
pcreq_next profile ingress s given room = behind (message_verdict Pcreq s) (next (carried profile ingress s) given room)

-- ---- a series of such calls: the run that makes them, each next given the path last written, and what it must answer

abbrev pub pcreq_call : List ℕ → ℕ → List ℕ → List ℕ → Kind → ℕ → Outcome ℕ
pcreq_call profile ingress s last first_call room = pcreq_first profile ingress s room
pcreq_call profile ingress s last next_call room = pcreq_next profile ingress s last room

unfoldable pub pcreq_run : List ℕ → ℕ → List ℕ → List ℕ → List Call → List Reply
pcreq_run profile ingress s last [] = []
pcreq_run profile ingress s last (c ∷ cs) =
    let o = pcreq_call profile ingress s last c.kind (length c.buffer) in
    reply_to c o ∷ pcreq_run profile ingress s (last_after (eqb o.numbers.answer 0) o.written last) cs
