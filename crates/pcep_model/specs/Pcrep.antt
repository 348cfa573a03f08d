-- The fields of a PCRep, the message that is written for them, and the whole outcome of reading and writing one: document 02's request [3].
use Rattle.std.specs.Prelude.{ℕ, ◌+◌, ◌-◌, ◌*◌, ◌%◌, Bool, true, false, not, cond, ◌&&◌, ◌||◌, List, [], ◌∷◌, ◌++◌, map, length, get_or, eqb, leb, ltb, Result, Ok, Err}
use Rattle.model.specs.declared.Refusal.{Refusal}
use Rattle.model.specs.declared.ListKind.TheVariants.{Include}
use Rattle.model.specs.Lists.{any, each}
use Rattle.model.specs.Bytes.{number, bytes_of, part}
use Rattle.model.specs.Verdict.{Verdict, refuse_if, ◌and_then◌}
use Rattle.model.specs.Along.{checked_from, places_from}
use Rattle.model.specs.Subobject as Subobject
use Rattle.model.specs.Answers.{Numbers}
use Rattle.model.specs.Calls.{Outcome, room_verdict, answer_write}
use Rattle.pcep_model.specs.declared.MessageKind.{MessageKind}
use Rattle.pcep_model.specs.declared.MessageKind.TheVariants.{Pcrep}
use Rattle.pcep_model.specs.declared.PcrepFields.{PcrepFields}
use Rattle.pcep_model.specs.Objects.{RP, NO-PATH, METRIC, ERO, size_at, first_object, type_number, message_verdict}
use Rattle.pcep_model.specs.Metrics.{Metric, metrics, out_of_range, wrong_metric}
use Rattle.pcep_model.specs.Pcreq.{rp_flags_of, request_id_of}

-- ---- an ERO's body: one IPv4 subobject for each address

-- tested like an include list's, but any type other than 1 is 24
unfoldable pub step_verdict : List ℕ → ℕ → Verdict
step_verdict e at =
    refuse_if (leb (at + 4) (length e) && not (eqb (Subobject.type_at e at) 1)) 24 at
    and_then Subobject.plain_verdict Include e (length e) at

abbrev pub ero_verdict : List ℕ → Verdict
ero_verdict e = checked_from (step_verdict e) (Subobject.after_subobject e) (length e) 0

abbrev pub address_at : List ℕ → ℕ → ℕ
address_at e at = number 4 e (at + 2)

unfoldable pub addresses_in : List ℕ → List ℕ
addresses_in e = map (address_at e) (places_from (Subobject.after_subobject e) (length e) 0)

-- ---- fields

-- the object that starts at the first place is there, and met before the one that starts at the second
abbrev pub met_first : ℕ → ℕ → Bool
met_first at other = not (eqb at 0) && (eqb other 0 || ltb at other)

-- of ERO and NO-PATH the one met first counts
abbrev pub route_given : List ℕ → Bool
route_given s = met_first (first_object ERO s) (first_object NO-PATH s)

-- the body of the ERO that counts, nothing beside a NO-PATH that does
abbrev pub route_in : List ℕ → List ℕ
route_in s = cond (route_given s) (part s (first_object ERO s + 4) (size_at s (first_object ERO s) - 4)) []

-- nature of issue, and C, the topmost flag
abbrev pub nature_of : List ℕ → ℕ
nature_of s = cond (route_given s) 0 (get_or s (first_object NO-PATH s + 4) 0)

abbrev pub c_flag_of : List ℕ → Bool
c_flag_of s = not (route_given s) && leb 128 (get_or s (first_object NO-PATH s + 5) 0)

abbrev pub pcrep_fields : List ℕ → PcrepFields
pcrep_fields s =
    record {
      id = request_id_of s;
      flags = rp_flags_of s;
      found = route_given s;
      nature = nature_of s;
      c = c_flag_of s;
      addresses = length (addresses_in (route_in s));
      metrics = length (metrics s);
    }

-- ---- read_pcrep: the checks whose inputs it takes, then the capacity for the addresses and for the METRICs

abbrev pub mark : Bool → ℕ
mark true = 1
mark false = 0

-- others: place, request-ID, RP flags, found, nature of issue, C, addresses, METRICs
abbrev pub numbers_of_pcrep : Result PcrepFields Refusal → Numbers
numbers_of_pcrep (Ok f) =
    record { answer = 0; others = 0 ∷ f.id ∷ f.flags ∷ mark f.found ∷ f.nature ∷ mark f.c ∷ f.addresses ∷ f.metrics ∷ [] }
numbers_of_pcrep (Err r) = record { answer = r.number; others = r.place ∷ 0 ∷ 0 ∷ 0 ∷ 0 ∷ 0 ∷ 0 ∷ 0 ∷ [] }

unfoldable pub pcrep_verdict : List ℕ → ℕ → ℕ → Verdict
pcrep_verdict s address_room metric_room =
    message_verdict Pcrep s
    and_then refuse_if (not (eqb (wrong_metric s) 0)) 21 1
    and_then ero_verdict (route_in s)
    and_then room_verdict (length (addresses_in (route_in s))) address_room
    and_then room_verdict (length (metrics s)) metric_room

-- the numbers answered, and what is written into the lent buffers
pub record Reading : Type 0 where
  pub numbers : Numbers
  pub addresses : List ℕ
  pub metrics : List Metric

abbrev pub answer_pcrep : Verdict → List ℕ → Reading
answer_pcrep (Err r) s = record { numbers = numbers_of_pcrep (Err r); addresses = []; metrics = [] }
answer_pcrep (Ok _) s = record { numbers = numbers_of_pcrep (Ok (pcrep_fields s)); addresses = addresses_in (route_in s); metrics = metrics s }

unfoldable pub read_pcrep : List ℕ → ℕ → ℕ → Reading
read_pcrep s address_room metric_room = answer_pcrep (pcrep_verdict s address_room metric_room) s

-- ---- what is written: RP, then ERO or NO-PATH, then the METRICs; P is set in RP alone, all that isn't a field is 0

pub record Reply : Type 0 where
  pub request_id : ℕ
  pub rp_flags : ℕ
  pub found : Bool
  pub addresses : List ℕ
  pub nature : ℕ
  pub c_flag : Bool
  pub metrics : List Metric

-- an object of type 1, with P set or clear
abbrev pub object_bytes : ℕ → Bool → List ℕ → List ℕ
object_bytes c p body = c ∷ (16 + 2 * mark p) ∷ bytes_of 2 (4 + length body) ++ body

-- version 1, no flags
abbrev pub header_bytes : MessageKind → ℕ → List ℕ
header_bytes k n = 32 ∷ type_number k ∷ bytes_of 2 n

abbrev pub written_rp : ℕ → ℕ → List ℕ
written_rp id flags = object_bytes RP true (bytes_of 4 (flags % 64) ++ bytes_of 4 id)

-- type 1, L clear, prefix length 32
abbrev pub written_step : ℕ → List ℕ
written_step a = 1 ∷ 8 ∷ bytes_of 4 a ++ (32 ∷ 0 ∷ [])

abbrev pub written_ero : List ℕ → List ℕ
written_ero addresses = object_bytes ERO false (each written_step addresses)

abbrev pub written_no_path : ℕ → Bool → List ℕ
written_no_path nature c = object_bytes NO-PATH false (nature ∷ 128 * mark c ∷ 0 ∷ 0 ∷ [])

abbrev pub written_metric : Metric → List ℕ
written_metric m = object_bytes METRIC false (0 ∷ 0 ∷ m.flags ∷ m.kind ∷ bytes_of 4 m.value)

abbrev pub written_route : Reply → List ℕ
written_route r = cond r.found (written_ero r.addresses) (written_no_path r.nature r.c_flag)

abbrev pub written_objects : Reply → List ℕ
written_objects r = written_rp r.request_id r.rp_flags ++ (written_route r ++ each written_metric r.metrics)

unfoldable pub written_pcrep : Reply → List ℕ
written_pcrep r = header_bytes Pcrep (4 + length (written_objects r)) ++ written_objects r

-- ---- write_pcrep: 37 for a message that is too long or METRIC lists that don't belong together, 21, then 34

-- the METRICs that three lent lists stand for
unfoldable pub metrics_of : List ℕ → List ℕ → List ℕ → List Metric
metrics_of [] flags values = []
metrics_of (k ∷ ks) [] values = []
metrics_of (k ∷ ks) (f ∷ fs) [] = []
metrics_of (k ∷ ks) (f ∷ fs) (v ∷ vs) = record { kind = k; flags = f; value = v } ∷ metrics_of ks fs vs

abbrev pub apart : List ℕ → List ℕ → List ℕ → Bool
apart kinds flags values = not (eqb (length flags) (length kinds)) || not (eqb (length values) (length kinds))

unfoldable pub write_verdict : Reply → Bool → ℕ → Verdict
write_verdict r unequal room =
    refuse_if (unequal || ltb 65535 (length (written_pcrep r))) 37 0
    and_then refuse_if (any (λ (m : Metric). out_of_range m.value) r.metrics) 21 1
    and_then room_verdict (length (written_pcrep r)) room

unfoldable pub write_pcrep : Reply → Bool → ℕ → Outcome ℕ
write_pcrep r unequal room = answer_write (write_verdict r unequal room) (written_pcrep r)
