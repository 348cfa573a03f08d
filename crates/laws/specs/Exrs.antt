-- The EXRS among the subobjects of an include list, and what they say, as code meets them: in the list, from an offset up to another.
use Rattle.std.specs.Prelude.{◌≡◌, List, [], ◌∷◌, ℕ, ◌≤◌, length}
use Rattle.model.specs.Verdict.{Pass}
use Rattle.model.specs.declared.ListKind.TheVariants.{Include}
use Rattle.model.specs.Lists.{each}
use Rattle.model.specs.Subobject.{Named, prefix, system, area, stretch, Subobject, form_from, subobjects_from, inside_of}
use Rattle.model.specs.Sequence.{Waiting, waiting_for, entry, exclusions}

-- a part of an include list that is whole subobjects of right form
pub record Stretch (s : List ℕ) (from to : ℕ) : Type 0 where
  pub order : from ≤ to
  pub inside : to ≤ length s
  pub right : form_from Include s to from ≡ Pass

-- the bytes of the EXRS in it, back to back
abbrev pub bytes_named : Named → List ℕ
bytes_named (prefix a n) = []
bytes_named (system n) = []
bytes_named (area a) = []
bytes_named (stretch bytes) = bytes

unfoldable pub exrs_in : List ℕ → ℕ → ℕ → List ℕ
exrs_in s from to = each (λ (x : Subobject). bytes_named x.names) (subobjects_from s to from)

-- the exclusions that they carry
unfoldable pub carried_in : List ℕ → ℕ → ℕ → List Subobject
carried_in s from to = each (λ (x : Subobject). inside_of x.names) (subobjects_from s to from)

-- what waits there for a new domain: entry constraints and EXRS, in their order
abbrev pub waits_as : ℕ → Named → List Waiting
waits_as at (prefix a n) = waiting_for at (entry a) ∷ []
waits_as at (system n) = []
waits_as at (area a) = []
waits_as at (stretch bytes) = waiting_for at (exclusions bytes) ∷ []

unfoldable pub waiting_in : List ℕ → ℕ → ℕ → List Waiting
waiting_in s from to = each (λ (x : Subobject). waits_as x.offset x.names) (subobjects_from s to from)
