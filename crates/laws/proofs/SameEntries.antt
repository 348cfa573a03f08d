-- Two answers of tree with the same entries.
use mathlib.Core.Path.{◌≡◌}
use lib.ListN.{length, get_or}
use Rattle.model.specs.declared.TreeEntry.{TreeEntry}
use Rattle.model.specs.Calls.{Outcome}

-- two answers of tree are the same but for tally and round, the last two of their four numbers
pub record SameEntries (o o' : Outcome TreeEntry) : Type 0 where
  pub answer : o.numbers.answer ≡ o'.numbers.answer
  pub place : get_or o.numbers.others 0 0 ≡ get_or o'.numbers.others 0 0
  pub entries : get_or o.numbers.others 1 0 ≡ get_or o'.numbers.others 1 0
  pub written : o.written ≡ o'.written
  pub many : length o.numbers.others ≡ length o'.numbers.others
