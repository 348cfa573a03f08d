-- `path_descent::first_by` ends: each call is for the place behind.
use Prim.Native.Nat.{◌-◌}
use Rattle.path_descent.proofs.+first_by.Given as goal

abbrev pub decreases-first_by : goal.decreases-first_by
decreases-first_by l = l.tree.now.query.count - l.i
