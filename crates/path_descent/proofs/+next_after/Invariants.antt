-- `path_descent::next_after` ends: each call is for the place behind.
use Prim.Native.Nat.{◌-◌}
use Rattle.path_descent.proofs.+next_after.Given as goal

abbrev pub decreases-next_after : goal.decreases-next_after
decreases-next_after l = l.tree.now.query.count - l.i
