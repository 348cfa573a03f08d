-- The fields of the tree's entries as lists of numbers, and how each is read from what `tree_vspt` works out: the start of each place, and one number for each reach.
use Rattle.std.specs.Prelude.{ℕ, suc, ◌-◌, ◌≤◌, ◌<◌, ◌≡◌, Bool, true, false, List, length, get_or, replicate}
use Rattle.model.specs.declared.TreeEntry.{TreeEntry}
use Rattle.model.specs.Lists.{count_from, each}
use Rattle.tree_reaches.specs.Reaches.{reach_of}

-- ---- the fields: an entry's mark is 1 where it is reachable, else 0

abbrev pub mark_if : Bool → ℕ
mark_if true = 1
mark_if false = 0

abbrev pub level : TreeEntry → ℕ
level e = e.level

abbrev pub address : TreeEntry → ℕ
address e = e.address.0

abbrev pub mark : TreeEntry → ℕ
mark e = mark_if e.reachable

abbrev pub cost : TreeEntry → ℕ
cost e = e.cost

-- ---- the mark and the cost (0 if unreachable) of a reach in one number

abbrev pub mark_of : ℕ → ℕ
mark_of code = mark_if (reach_of code).reachable

abbrev pub cost_of : ℕ → ℕ
cost_of code = (reach_of code).cost

-- ---- the levels: each place's number as often as the place has entries

abbrev pub levels_at : List ℕ → ℕ → List ℕ
levels_at starts i = replicate (get_or starts (suc i) 0 - get_or starts i 0) i

unfoldable pub levels_of : ℕ → List ℕ → List ℕ
levels_of count starts = each (levels_at starts) (count_from 0 count)

-- the places start one after the other and end within n
pub record Places (count : ℕ) (starts : List ℕ) (n : ℕ) : Type 0 where
  pub few : count ≤ 16
  pub start_is : (i : ℕ) → i < count → get_or starts i 0 ≡ length (levels_of i starts)
  pub ascends : (i : ℕ) → i < count → get_or starts i 0 ≤ get_or starts (suc i) 0
  pub fits : (i : ℕ) → i < count → get_or starts (suc i) 0 ≤ n
