-- What reading a PCReq answers and leaves in the lent buffers, over `Pcreq` of `pcep_model`.
use Rattle.std.specs.Prelude.{ℕ, ◌≤◌, ◌≡◌, List, map, length, Result, Ok, Err}
use Rattle.model.specs.declared.Refusal.{Refusal}
use Rattle.model.specs.Lists.{over}
use Rattle.model.specs.Verdict.{Verdict, Pass, ◌and_then◌}
use Rattle.model.specs.Calls.{room_verdict}
use Rattle.model.specs.Request.{sizes_verdict, forms_verdict}
use Rattle.pcep_model.specs.declared.PcreqFields.{PcreqFields}
use Rattle.pcep_model.specs.Metrics.{metrics}
use Rattle.pcep_model.specs.Pcreq.{floats_verdict, list_in, include_extent, exclude_extent, pcreq_fields, pcreq_verdict, read_pcreq, numbers_of_pcreq}
use Rattle.buffers.specs.Capacity.{least3}
use Rattle.pcep_metrics.specs.Along.{Passed, kind_of, flags_of, value_of}

-- the checks behind the frame's
abbrev pub rest_verdict : List ℕ → ℕ → Verdict
rest_verdict s room =
    floats_verdict s
    and_then sizes_verdict (list_in s (include_extent s)) (list_in s (exclude_extent s))
    and_then forms_verdict (list_in s (include_extent s)) (list_in s (exclude_extent s))
    and_then room_verdict (length (metrics s)) room

-- what is known where all checks pass
pub record PassedPcreq (s : List ℕ) (room : ℕ) (f : PcreqFields) : Type 0 where
  pub verdict : pcreq_verdict s room ≡ Pass
  pub passed : Passed s
  pub fields : f ≡ pcreq_fields s
  pub fits : length (metrics s) ≤ room

abbrev pub CheckedPcreqIs : List ℕ → ℕ → Result PcreqFields Refusal → Type 0
CheckedPcreqIs s room (Err x) = pcreq_verdict s room ≡ Err x
CheckedPcreqIs s room (Ok f) = PassedPcreq s room f

-- the answer, and each buffer with its field of the METRICs at its start
pub record ReadBy (s kinds flags values : List ℕ) (r : Result PcreqFields Refusal) (kinds' flags' values' : List ℕ) : Type 0 where
  pub numbers : numbers_of_pcreq r ≡ (read_pcreq s (least3 kinds flags values)).numbers
  pub in_kinds : kinds' ≡ over (map kind_of (read_pcreq s (least3 kinds flags values)).written) kinds
  pub in_flags : flags' ≡ over (map flags_of (read_pcreq s (least3 kinds flags values)).written) flags
  pub in_values : values' ≡ over (map value_of (read_pcreq s (least3 kinds flags values)).written) values
