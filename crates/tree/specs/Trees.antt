-- What the calls of this crate answer and leave, over `build_tree` of `model`.
use Rattle.std.specs.Prelude.{ℕ, ◌≤◌, ◌≡◌, List, Result, Ok, Err}
use Rattle.model.specs.declared.BuiltTree.{BuiltTree}
use Rattle.model.specs.declared.Refusal.{Refusal}
use Rattle.model.specs.declared.TreeEntry.{TreeEntry}
use Rattle.model.specs.Lists.{over}
use Rattle.model.specs.Answers.{refused4, numbers_of_tree}
use Rattle.model.specs.Calls.{Outcome, nothing}
use Rattle.tree_entries.specs.Entries.{entries_of}
use Rattle.tree.specs.declared.TableResult.{TableResult}

-- what is told of a tree, and its entries by value
pub record TableHeld (outcome : Outcome TreeEntry) (room : ℕ) (r : TableResult) : Type 0 where
  pub numbers : numbers_of_tree (Ok r.built) ≡ outcome.numbers
  pub most : r.built.entries ≤ 241
  pub fits : r.built.entries ≤ room
  pub entries_are : entries_of r.built.entries r.table.level r.table.addresses r.table.reaches ≡ outcome.written

-- the answer, and the entries written by value; on a refusal there are none
abbrev pub TableResultIs : Outcome TreeEntry → ℕ → Result TableResult Refusal → Type 0
TableResultIs outcome room (Ok r) = TableHeld outcome room r
TableResultIs outcome room (Err r) = outcome ≡ nothing (refused4 r)

-- the answer, and the lent slice with the entries written at its start and its own rest after them
pub record TreeLent (outcome : Outcome TreeEntry) (entries : List TreeEntry) (r : Result BuiltTree Refusal) (entries' : List TreeEntry) : Type 0 where
  pub numbers : numbers_of_tree r ≡ outcome.numbers
  pub in_entries : entries' ≡ over outcome.written entries
