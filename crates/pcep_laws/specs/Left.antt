-- The METRICs that are left of a message from an offset on, where a loop stands. And an object that lies inside the message.
use Rattle.std.specs.Prelude.{List, ℕ, ◌+◌, ◌≤◌, length}
use Rattle.model.specs.Lists.{keep}
use Rattle.pcep_model.specs.Objects.{METRIC, size_at, is_object, objects_in}

abbrev pub metrics_left : List ℕ → ℕ → List ℕ
metrics_left s at = keep (is_object METRIC s) (objects_in s at)

-- all of an object lies inside the message, and it is at least so long
pub record Stands (s : List ℕ) (at least : ℕ) : Type 0 where
  pub long : least ≤ size_at s at
  pub inside : at + size_at s at ≤ length s
  pub head : at + 4 ≤ length s
