-- `tree_levels::entries::seek` meets its contract. The loop's invariant: the cells passed are below the node.
use Prim.Native.Nat.{ℕ, ◌≤◌, ◌<◌}
use lib.ListN.{get_or}
use Rattle.tree_levels.proofs.entries.seek.Given as goal

abbrev pub invariant-loop-at : goal.invariant-loop-at
invariant-loop-at l = (k : ℕ) → l.from ≤ k → k < l.at → get_or l.addresses k 0 < l.node.0
