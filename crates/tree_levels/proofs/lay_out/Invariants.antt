-- `tree_levels::lay_out` meets its contract. The loop's invariant: for every search over these domains, i legs are laid out (`Filled`).
use Prim.Native.Nat.{◌+◌, ◌*◌, ◌≤◌}
use lib.ListN.{get_or}
use Rattle.model.specs.Request.{Search}
use Rattle.profile_records.specs.Layout.{layout_of}
use Rattle.tree_levels.specs.Levels.{Covers, Room}
use Rattle.tree_levels.proofs.Filling.{Filled}
use Rattle.tree_levels.proofs.lay_out.Given as goal

abbrev pub invariant-loop-i : goal.invariant-loop-i
invariant-loop-i l =
    (l.end ≤ 1 + 16 * l.i)
    × (l.examined ≤ 65535 * l.i)
    × Room l.levels.addresses l.levels.starts l.levels.firsts l.levels.lasts
    × ((S : Search) → Covers S (layout_of l.layout) l.s l.stops l.count (get_or l.initial.levels.addresses 0 0) l.destination.0 → Filled S (layout_of l.layout) l.s l.levels.addresses l.levels.starts l.levels.firsts l.levels.lasts l.end l.examined l.i)
