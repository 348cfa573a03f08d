-- What the checks of a PCRep answer, over `Pcrep` of `pcep_model`.
use Rattle.std.specs.Prelude.{ℕ, ◌+◌, ◌≤◌, ◌≡◌, Bool, false, cond, List, length, get_or, leb, Option, None, Some, Result, Ok, Err}
use Rattle.model.specs.declared.Refusal.{Refusal}
use Rattle.model.specs.Verdict.{Verdict, Pass, ◌and_then◌}
use Rattle.model.specs.Calls.{room_verdict}
use Rattle.pcep_model.specs.declared.Extent.{Extent}
use Rattle.pcep_model.specs.declared.MessageKind.TheVariants.{Pcrep}
use Rattle.pcep_model.specs.declared.PcrepFields.{PcrepFields}
use Rattle.pcep_model.specs.Objects.{objects_verdict, message_verdict}
use Rattle.pcep_model.specs.Metrics.{metrics}
use Rattle.pcep_model.specs.Pcreq.{list_in}
use Rattle.pcep_model.specs.Pcrep.{ero_verdict, addresses_in, route_in, pcrep_fields, pcrep_verdict}
use Rattle.pcep_message.specs.declared.objects.Objects.{Objects}
use Rattle.pcep_message.specs.Walked.{FirstsAre}
use Rattle.pcep_metrics.specs.Along.{Passed}
use Rattle.pcep_reply_reader.specs.declared.fields.CheckedPcrep.{CheckedPcrep}
use Rattle.pcep_reply_reader.specs.declared.fields.Issue.{Issue}

-- where the ERO that counts starts, none where a NO-PATH counts
abbrev pub route_at : Option ℕ → Option ℕ → Option ℕ
route_at None no_path = None
route_at (Some ero) None = Some ero
route_at (Some ero) (Some no_path) = cond (leb no_path ero) None (Some ero)

-- what a NO-PATH that counts says
abbrev pub nature_by : List ℕ → Option ℕ → Option ℕ → ℕ
nature_by s (Some route) no_path = 0
nature_by s None None = 0
nature_by s None (Some at) = get_or s (at + 4) 0

abbrev pub c_by : List ℕ → Option ℕ → Option ℕ → Bool
c_by s (Some route) no_path = false
c_by s None None = false
c_by s None (Some at) = leb 128 (get_or s (at + 5) 0)

pub record IssueIs (s : List ℕ) (route no_path : Option ℕ) (r : Issue) : Type 0 where
  pub nature : r.nature ≡ nature_by s route no_path
  pub c : r.c ≡ c_by s route no_path

-- the checks behind the frame's and those of METRICs, over the body of the ERO that counts
abbrev pub rest_verdict : List ℕ → ℕ → ℕ → ℕ → Verdict
rest_verdict body count address_room metric_room = ero_verdict body and_then room_verdict (length (addresses_in body)) address_room and_then room_verdict count metric_room

-- what those checks leave: right objects, an RP and an ERO or a NO-PATH among them, the first of each class, and the numbers of addresses and METRICs
pub record Framed (s : List ℕ) (firsts : Objects) (addresses count : ℕ) : Type 0 where
  pub verdict : message_verdict Pcrep s ≡ Pass
  pub right : objects_verdict Pcrep s 4 ≡ Pass
  pub short : length s ≤ 65535
  pub firsts_are : FirstsAre Pcrep s firsts
  pub addresses_are : addresses ≡ length (addresses_in (route_in s))
  pub few : addresses ≤ 65535
  pub counted : count ≡ length (metrics s)
  pub most : count ≤ 65535

-- what is known where all checks pass, with the fields and where the ERO's body stands
pub record PassedPcrep (s : List ℕ) (address_room metric_room : ℕ) (f : PcrepFields) (x : Extent) : Type 0 where
  pub verdict : pcrep_verdict s address_room metric_room ≡ Pass
  pub passed : Passed s
  pub fields : f ≡ pcrep_fields s
  pub inside : x.start + x.size ≤ length s
  pub route : list_in s x ≡ route_in s
  pub form : ero_verdict (route_in s) ≡ Pass
  pub addresses-fit : length (addresses_in (route_in s)) ≤ address_room
  pub metrics-fit : length (metrics s) ≤ metric_room

abbrev pub CheckedPcrepIs : List ℕ → ℕ → ℕ → Result CheckedPcrep Refusal → Type 0
CheckedPcrepIs s address_room metric_room (Err r) = pcrep_verdict s address_room metric_room ≡ Err r
CheckedPcrepIs s address_room metric_room (Ok p) = PassedPcrep s address_room metric_room p.fields p.route
