-- What an entry of the tree says.
use mathlib.Core.Path.{◌≡◌}
use mathlib.Core.Bool.{true, false}
use mathlib.Core.List.{Memᴰ}
use Prim.Native.Nat.{◌≤◌, ◌<◌}
use lib.ListN.{length}
use Rattle.model.specs.declared.TreeEntry.{TreeEntry}
use Rattle.model.specs.Request.{Search}
use Rattle.model.specs.Path.{Route}
use Rattle.model.specs.Tree.{entries_at, suffixes_at}

-- what an entry of the tree says: its place and node, and that it is reachable exactly when there is a suffix, at the cost of some and at most that of each
pub record LeastEntry (S : Search) (e : TreeEntry) : Type 0 where
  pub place : e.level < length S.sequence
  pub node : Memᴰ e.address.0 (entries_at S e.level)
  pub reachable_by : (r : Route) → Memᴰ r (suffixes_at S e.level e.address.0) → e.reachable ≡ true
  pub cost_of_some : e.reachable ≡ true → (r : Route) × Memᴰ r (suffixes_at S e.level e.address.0) × (r.total ≡ e.cost)
  pub cost_at_most : (r : Route) → Memᴰ r (suffixes_at S e.level e.address.0) → e.cost ≤ r.total
  pub cost-unreachable : e.reachable ≡ false → e.cost ≡ 0
