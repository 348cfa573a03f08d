-- What a search for a path finds, whatever the engine: the first of the shortest paths above a given list, which may be empty.
use Rattle.std.specs.Prelude.{◌≡◌, ℕ, length, take, replicate, Some, None}
use mathlib.Core.List.{List, head?}
use Rattle.std.proofs.Math.Option.{none, some}
use Rattle.model.specs.Lists.{over}
use Rattle.model.specs.declared.Round.{Round}
use Rattle.model.specs.Request.{Search}
use Rattle.model.specs.Path.{Route, shortest_paths}
use Rattle.model.specs.Calls.{greater_than}
use Rattle.path_answers.specs.declared.FoundPath.{FoundPath}
use Rattle.path_answers.specs.declared.SearchResult.{SearchResult}

-- a path found: its total and its addresses, `long` of them, and nothing behind them
pub record ResultPath (S : Search) (given : List ℕ) (long : ℕ) (f : FoundPath) : Type 0 where
  pub path : Route
  pub first : head? (greater_than given (shortest_paths S)) ≡ some path
  pub total-is : path.total ≡ f.total
  pub addresses_are : path.addresses ≡ take long f.addresses
  pub cells_are : f.addresses ≡ over path.addresses (replicate 17 0)
  pub cells : length f.addresses ≡ 17

-- a path found in a round, or nothing
abbrev pub found_in : Round → ℕ → List ℕ → SearchResult
found_in x total addresses = record { round = x; found = Some (record { total = total; addresses = addresses }) }

abbrev pub nothing_in : Round → SearchResult
nothing_in x = record { round = x; found = None }

pub record ResultIs (S : Search) (given : List ℕ) (long : ℕ) (r : SearchResult) : Type 0 where
  pub there : (f : FoundPath) → r.found ≡ Some f → ResultPath S given long f
  pub missing : r.found ≡ None → head? (greater_than given (shortest_paths S)) ≡ none
