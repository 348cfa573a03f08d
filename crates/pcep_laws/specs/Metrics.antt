-- Where the METRICs of a message start, and what is asked of the METRIC at a place.
use Rattle.std.specs.Prelude.{ℕ, ◌%◌, Bool, List, eqb}
use Rattle.model.specs.Lists.{keep}
use Rattle.pcep_model.specs.Objects.{METRIC, is_object, objects_in}
use Rattle.pcep_model.specs.Metrics.{flags_at, value_at, out_of_range}

abbrev pub metric_places : List ℕ → List ℕ
metric_places s = keep (is_object METRIC s) (objects_in s 4)

abbrev pub has_b : List ℕ → ℕ → Bool
has_b s at = eqb (flags_at s at % 2) 1

abbrev pub is_wrong : List ℕ → ℕ → Bool
is_wrong s at = out_of_range (value_at s at)
