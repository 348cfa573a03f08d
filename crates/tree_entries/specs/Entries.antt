-- The entries of a tree that is worked out as lists of numbers. Document 01, "Paths and the tree": level, address, reachable
-- and cost.
use Rattle.std.specs.Prelude.{ℕ, List, map, get_or}
use Rattle.model.specs.declared.TreeEntry.{TreeEntry}
use Rattle.model.specs.Lists.{count_from}
use Rattle.tree_reaches.specs.Reaches.{reach_of}

-- entry i: whether and at what cost the destination is reached is one number
abbrev pub entry_at : List ℕ → List ℕ → List ℕ → ℕ → TreeEntry
entry_at levels addresses codes i = record {
  level = get_or levels i 0;
  address = record { 0 = get_or addresses i 0 };
  reachable = (reach_of (get_or codes i 0)).reachable;
  cost = (reach_of (get_or codes i 0)).cost;
}

-- the first n entries
unfoldable pub entries_of : ℕ → List ℕ → List ℕ → List ℕ → List TreeEntry
entries_of n levels addresses codes = map (entry_at levels addresses codes) (count_from 0 n)
