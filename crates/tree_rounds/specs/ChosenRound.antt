-- What is worked out for a query once its round is settled.
use Rattle.std.specs.Prelude.{◌≡◌, List, ℕ, ◌≤◌}
use Rattle.model.specs.Profile.{Layout, hop_count}
use Rattle.model.specs.Rounds.{over_rounds}
use Rattle.laws.specs.Lists.{Lists}
use Rattle.request.specs.declared.Query.{Query}
use Rattle.request.specs.Query.{search_for, in_round, round_for}
use Rattle.tree_vspt.specs.Tree.{WorkedOut}
use Rattle.tree_rounds.specs.declared.ChosenRound.{ChosenRound}

-- the query in the round that applies, its tree in that round, how many hop records a round examines, and the tally over the rounds that were needed
pub record ChosenRoundIs (L : Layout) (s : List ℕ) (lists : Lists) (q : Query) (addresses codes starts firsts lasts : List ℕ) (r : ChosenRound) : Type 0 where
  pub query_is : r.query ≡ in_round (round_for L s lists q) q
  pub examined : ℕ
  pub worked : WorkedOut L s (search_for L s lists r.query) addresses codes starts firsts lasts examined
  pub most : examined ≤ hop_count s
  pub tally-is : r.tally ≡ over_rounds (round_for L s lists q) examined
