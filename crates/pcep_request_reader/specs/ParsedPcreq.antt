-- What a PCReq taken apart is, over `Pcreq` of `pcep_model`.
use Rattle.std.specs.Prelude.{ℕ, ◌+◌, ◌≤◌, ◌≡◌, not, List, length, eqb, Result, Ok, Err}
use Rattle.std.specs.Option.{option_map}
use Rattle.model.specs.declared.Refusal.{Refusal}
use Rattle.pcep_model.specs.declared.MessageKind.TheVariants.{Pcreq}
use Rattle.pcep_model.specs.declared.PcreqFields.{PcreqFields}
use Rattle.pcep_model.specs.Objects.{message_verdict, objects_verdict, first_object, RP, END-POINTS}
use Rattle.pcep_model.specs.Metrics.{metrics, value_at, wrong_metric}
use Rattle.pcep_model.specs.Pcreq.{pcreq_fields, judged_metric}
use Rattle.pcep_laws.specs.Firsts.{placed}
use Rattle.pcep_message.specs.declared.objects.Objects.{Objects}
use Rattle.pcep_message.specs.Walked.{FirstsAre}
use Rattle.pcep_metrics.specs.Along.{Passed}
use Rattle.pcep_request_reader.specs.declared.fields.PcreqParts.{PcreqParts}
use Rattle.model.specs.Verdict.{Pass}

-- what the frame's checks leave: right objects, an RP and END-POINTS among them, the first of each class, and the number of METRICs
pub record Framed (s : List ℕ) (firsts : Objects) (count : ℕ) : Type 0 where
  pub right : objects_verdict Pcreq s 4 ≡ Pass
  pub short : length s ≤ 65535
  pub firsts_are : FirstsAre Pcreq s firsts
  pub some_rp : first_object RP s ≡ 0 → ⊥
  pub some_ends : first_object END-POINTS s ≡ 0 → ⊥
  pub counted : count ≡ length (metrics s)
  pub most : count ≤ 65535

pub record FieldsAre (s : List ℕ) (r : PcreqFields) : Type 0 where
  pub are : r ≡ pcreq_fields s
  pub include-inside : r.include.start + r.include.size ≤ length s
  pub exclude-inside : r.exclude.start + r.exclude.size ≤ length s

-- the parts of a PCReq whose frame passes
pub record PartsAre (s : List ℕ) (p : PcreqParts) : Type 0 where
  pub verdict : message_verdict Pcreq s ≡ Pass
  pub passed : Passed s
  pub fields : FieldsAre s p.fields
  pub bound : p.bound ≡ option_map (λ (at : ℕ). value_at s at) (placed (judged_metric s))
  pub wrong : p.wrong ≡ not (eqb (wrong_metric s) 0)

abbrev pub ParsedPcreqIs : List ℕ → Result PcreqParts Refusal → Type 0
ParsedPcreqIs s (Err x) = message_verdict Pcreq s ≡ Err x
ParsedPcreqIs s (Ok p) = PartsAre s p
