-- What reading a PCRep answers and leaves in the lent buffers, over `Pcrep` of `pcep_model`.
use Rattle.std.specs.Prelude.{ℕ, ◌≡◌, List, map, length, Result}
use Rattle.model.specs.Lists.{over}
use Rattle.model.specs.declared.Refusal.{Refusal}
use Rattle.pcep_model.specs.declared.PcrepFields.{PcrepFields}
use Rattle.pcep_model.specs.Pcrep.{Reading, read_pcrep, numbers_of_pcrep}
use Rattle.buffers.specs.Capacity.{least3}
use Rattle.pcep_metrics.specs.Along.{kind_of, flags_of, value_of}

abbrev pub reading : List ℕ → List ℕ → List ℕ → List ℕ → List ℕ → Reading
reading s addresses kinds flags values = read_pcrep s (length addresses) (least3 kinds flags values)

-- the answer, the addresses at the start of their buffer, and each METRIC buffer with its field at its start
pub record ReadBy (s addresses kinds flags values : List ℕ) (r : Result PcrepFields Refusal) (addresses' kinds' flags' values' : List ℕ) : Type 0 where
  pub numbers : numbers_of_pcrep r ≡ (reading s addresses kinds flags values).numbers
  pub in_addresses : addresses' ≡ over (reading s addresses kinds flags values).addresses addresses
  pub in_kinds : kinds' ≡ over (map kind_of (reading s addresses kinds flags values).metrics) kinds
  pub in_flags : flags' ≡ over (map flags_of (reading s addresses kinds flags values).metrics) flags
  pub in_values : values' ≡ over (map value_of (reading s addresses kinds flags values).metrics) values
