-- What it means that a path is listed.
use Prim.Native.Nat.{ℕ, ◌≤◌}
use mathlib.Core.List.{List}
use Rattle.model.specs.Request.{Search}
use Rattle.model.specs.Path.{Admissible, total}

-- a path is listed: it is admissible, and every admissible path has at least its total
pub record Listed (S : Search) (p : List ℕ) : Type 0 where
  pub admissible : Admissible S p
  pub least : (q : List ℕ) → Admissible S q → total S p ≤ total S q
