-- What the functions of this crate answer and leave in numbers, over `build_tree` of `model`.
use Rattle.std.specs.Prelude.{ℕ, ◌≤◌, ◌≡◌, Bool, true, false, List, map, length, take, Result, Ok, Err}
use Rattle.model.specs.declared.Refusal.{Refusal}
use Rattle.model.specs.declared.Round.{Round}
use Rattle.model.specs.declared.BuiltTree.{BuiltTree}
use Rattle.model.specs.declared.TreeEntry.{TreeEntry}
use Rattle.model.specs.Lists.{over}
use Rattle.model.specs.Answers.{refused4, numbers_of_tree}
use Rattle.model.specs.Calls.{Outcome, nothing, room_verdict, answer_tree}
use Rattle.model.specs.Profile.{layout_in}
use Rattle.model.specs.Request.{Search}
use Rattle.model.specs.Tree.{tree}
use Rattle.laws.specs.Lists.{Lists}
use Rattle.request.specs.declared.Query.{Query}
use Rattle.request.specs.Query.{search_for, in_round, round_for}
use Rattle.tree_fields.specs.Fields.{level, address, mark, cost, mark_of, cost_of, levels_of, Places}
use Rattle.tree_fields.specs.declared.TreeResult.{TreeResult}

-- a tree of so many entries, or 34 where there is too little room
abbrev pub told_by : Bool → ℕ → ℕ → ℕ → Round → Result TreeResult Refusal
told_by true count places tally x = Err (record { number = 34; place = 0 })
told_by false count places tally x = Ok (record { built = record { entries = count; tally = tally; round = x }; places = places })

-- what a search's tree is answered with by its capacity; and a query's, in the round that applies
abbrev pub tree_outcome : Round → Search → ℕ → Outcome TreeEntry
tree_outcome x S room = answer_tree (room_verdict (length (tree S)) room) x S

abbrev pub tree_for : List ℕ → Lists → Query → ℕ → Outcome TreeEntry
tree_for profile lists q room =
    tree_outcome (round_for (layout_in profile) profile lists q) (search_for (layout_in profile) profile lists (in_round (round_for (layout_in profile) profile lists q) q)) room

-- what the lists in numbers hold of the entries written, n of them at the start of each list
pub record Held (written : List TreeEntry) (places n : ℕ) (addresses codes starts : List ℕ) : Type 0 where
  pub in_order : Places places starts n
  pub in_addresses : n ≤ length addresses
  pub in_codes : n ≤ length codes
  pub levels_are : levels_of places starts ≡ map level written
  pub addresses_are : take n addresses ≡ map address written
  pub marks_are : map mark_of (take n codes) ≡ map mark written
  pub costs_are : map cost_of (take n codes) ≡ map cost written

-- what is told of a tree, and its entries in numbers
pub record TreeHeld (outcome : Outcome TreeEntry) (room : ℕ) (addresses codes starts : List ℕ) (r : TreeResult) : Type 0 where
  pub numbers : numbers_of_tree (Ok r.built) ≡ outcome.numbers
  pub most : r.built.entries ≤ 241
  pub fits : r.built.entries ≤ room
  pub held : Held outcome.written r.places r.built.entries addresses codes starts

-- the answer, and the entries written in numbers; on a refusal there are none
abbrev pub TreeResultIs : Outcome TreeEntry → ℕ → List ℕ → List ℕ → List ℕ → Result TreeResult Refusal → Type 0
TreeResultIs outcome room addresses codes starts (Ok r) = TreeHeld outcome room addresses codes starts r
TreeResultIs outcome room addresses codes starts (Err r) = outcome ≡ nothing (refused4 r)

-- the answer, and each buffer with its field of the entries written at its start and its own rest after it
pub record TreeIn (outcome : Outcome TreeEntry) (levels addresses marks costs : List ℕ) (r : Result BuiltTree Refusal) (levels' addresses' marks' costs' : List ℕ) : Type 0 where
  pub numbers : numbers_of_tree r ≡ outcome.numbers
  pub in_levels : levels' ≡ over (map level outcome.written) levels
  pub in_addresses : addresses' ≡ over (map address outcome.written) addresses
  pub in_marks : marks' ≡ over (map mark outcome.written) marks
  pub in_costs : costs' ≡ over (map cost outcome.written) costs
