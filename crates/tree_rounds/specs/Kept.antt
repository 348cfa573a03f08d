-- What the source's number in a tree says of the search: it stands for an admissible path.
use Rattle.std.specs.Prelude.{ℕ, Bool, not, ◌&&◌, eqb}
use Rattle.model.specs.declared.Limits.{Limits}
use Rattle.model.specs.Path.{keeps_bound}
use Rattle.tree_reaches.specs.Reaches.{unreachable}

-- the source reaches the destination, and its least cost keeps the bound
abbrev pub kept_by : Limits → ℕ → Bool
kept_by limits here = not (eqb here unreachable) && keeps_bound limits here
