-- `tree_levels::heads::collect` meets its contract. The loop's invariant: the cells from `from` up to `end` hold the different heads of the records passed.
use Prim.Native.Nat.{◌≤◌}
use mathlib.Core.Path.{◌≡◌}
use Rattle.model.specs.Profile.{hop_start}
use Rattle.profile_records.specs.Layout.{layout_of}
use Rattle.tree_levels.proofs.Held.{Holds}
use Rattle.tree_levels.proofs.heads.collect.Given as goal

abbrev pub invariant-loop : goal.invariant-loop
invariant-loop l =
    (l.start ≡ hop_start (layout_of l.layout) l.s l.counter)
    × (l.from ≤ l.next)
    × Holds (layout_of l.layout) l.s l.first l.counter l.from l.initial.addresses l.addresses l.end
