-- The include list and the exclude list of a request, held together: what a search looks at beside the profile.
use Rattle.std.specs.Prelude.{List, ℕ}

-- the two lists of a request
pub record Lists : Type 0 where
  pub include : List ℕ
  pub exclude : List ℕ

abbrev pub lists_of : List ℕ → List ℕ → Lists
lists_of include exclude = record { include = include; exclude = exclude }
