-- The exclusions that count where the EXRS of a stretch of the include list do: those of the exclude list, and theirs; in force in a round, and all.
use Rattle.std.specs.Prelude.{List, ◌++◌, ℕ}
use Rattle.model.specs.declared.Round.{Round}
use Rattle.model.specs.Subobject.{Subobject, subobjects}
use Rattle.model.specs.Exclusion.{in_force}
use Rattle.laws.specs.Exrs.{carried_in}
use Rattle.laws.specs.Lists.{Lists}

abbrev pub exclusions_there : Round → Lists → ℕ → ℕ → List Subobject
exclusions_there x lists from to = in_force x (subobjects lists.exclude) ++ in_force x (carried_in lists.include from to)

abbrev pub all_there : Lists → ℕ → ℕ → List Subobject
all_there lists from to = subobjects lists.exclude ++ carried_in lists.include from to
