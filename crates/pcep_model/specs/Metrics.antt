-- METRIC objects: each is kept as kind, flags and the bits of its float, and all count, in their order: document 02's request [3].
use Rattle.std.specs.Prelude.{ℕ, ◌+◌, ◌%◌, Bool, ◌&&◌, List, map, get_or, eqb, leb}
use Rattle.model.specs.Lists.{keep}
use Rattle.model.specs.Bytes.{number}
use Rattle.model.specs.Along.{first_of}
use Rattle.pcep_model.specs.Objects.{METRIC, is_object, objects_in}

pub record Metric : Type 0 where
  pub kind : ℕ
  pub flags : ℕ
  pub value : ℕ

-- of the METRIC at an offset: after two reserved bytes the flags, the type, the value
abbrev pub flags_at : List ℕ → ℕ → ℕ
flags_at s at = get_or s (at + 6) 0

abbrev pub value_at : List ℕ → ℕ → ℕ
value_at s at = number 4 s (at + 8)

abbrev pub metric_at : List ℕ → ℕ → Metric
metric_at s at = record { kind = get_or s (at + 7) 0; flags = flags_at s at; value = value_at s at }

-- the METRICs of a message
unfoldable pub metrics : List ℕ → List Metric
metrics s = map (metric_at s) (keep (is_object METRIC s) (objects_in s 4))

-- bits from 7F800000 up are out of range
abbrev pub out_of_range : ℕ → Bool
out_of_range bits = leb 0x7f800000 bits

-- where the first METRIC out of range starts, 0 where there is none
unfoldable pub wrong_metric : List ℕ → ℕ
wrong_metric s = first_of (λ (at : ℕ). is_object METRIC s at && out_of_range (value_at s at)) (objects_in s 4)

-- where the first METRIC with B set starts, B being the lowest of its flags, 0 where there is none: its value is the bound
unfoldable pub bound_metric : List ℕ → ℕ
bound_metric s = first_of (λ (at : ℕ). is_object METRIC s at && eqb (flags_at s at % 2) 1) (objects_in s 4)
