-- A place of the walk along an ERO's body: what is left from there on is refused as the whole body is.
use Rattle.std.specs.Prelude.{ℕ, ◌≤◌, ◌≡◌, List, length}
use Rattle.model.specs.Along.{checked_from}
use Rattle.model.specs.Subobject.{after_subobject}
use Rattle.pcep_model.specs.Pcrep.{step_verdict, ero_verdict}

pub record LeftDecides (body : List ℕ) (at : ℕ) : Type 0 where
  pub reached : at ≤ length body
  pub decides : checked_from (step_verdict body) (after_subobject body) (length body) at ≡ ero_verdict body
