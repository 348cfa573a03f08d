-- What is left of a list from an offset on: its form, and its subobjects. A loop over a list stands at such an offset.
use Rattle.std.specs.Prelude.{List, ℕ, length}
use Rattle.model.specs.Verdict.{Verdict}
use Rattle.model.specs.declared.ListKind.{ListKind}
use Rattle.model.specs.Subobject.{Subobject, form_from, subobjects_from}

abbrev pub form_left : ListKind → List ℕ → ℕ → Verdict
form_left k s at = form_from k s (length s) at

abbrev pub subobjects_left : List ℕ → ℕ → List Subobject
subobjects_left s at = subobjects_from s (length s) at
