-- What a search finds for a query, in the round that applies; and how a given list's first address stands to the source.
use Rattle.std.specs.Prelude.{◌≡◌, List, ℕ, suc, Option, Some, None, slice_get}
use Rattle.std.specs.declared.cmp.Ordering.{Ordering}
use Rattle.std.specs.declared.cmp.Ordering.TheVariants.{Less}
use Rattle.std.specs.Ordering.{nat_cmp}
use Rattle.model.specs.Profile.{Layout}
use Rattle.laws.specs.Lists.{Lists}
use Rattle.request.specs.declared.Query.{Query}
use Rattle.request.specs.Query.{search_for, in_round, round_for}
use Rattle.path_answers.specs.declared.SearchResult.{SearchResult}
use Rattle.path_answers.specs.SearchResult.{ResultIs}

-- a list stands before the source where it is empty or its first address is less
abbrev pub start_at : Option ℕ → ℕ → Ordering
start_at None a = Less
start_at (Some x) a = nat_cmp x a

abbrev pub start_of : List ℕ → ℕ → Ordering
start_of given a = start_at (slice_get given 0) a

-- what a search finds for a query: the round that applies is told, and what is found is what that round has
pub record ResultFor (L : Layout) (s : List ℕ) (lists : Lists) (q : Query) (given : List ℕ) (r : SearchResult) : Type 0 where
  pub round_is : r.round ≡ round_for L s lists q
  pub is : ResultIs (search_for L s lists (in_round (round_for L s lists q) q)) given (suc q.count) r
