-- `tree_reaches::best_from` meets its contract. The loop's invariant: the best so far is that of the records passed.
use mathlib.Core.Path.{◌≡◌}
use lib.Seq.{slice}
use Rattle.model.specs.Profile.{hops}
use Rattle.laws.specs.Reach.{unreached, best_from}
use Rattle.profile_records.specs.Layout.{layout_of}
use Rattle.tree_reaches.specs.Reaches.{reach_of, way_on}
use Rattle.tree_reaches.proofs.best_from.Given as goal

abbrev pub invariant-loop-i : goal.invariant-loop-i
invariant-loop-i l =
    reach_of l.best ≡ best_from unreached (way_on l.asked (slice l.from l.to l.addresses) (slice l.from l.to l.reaches)) (slice l.first l.i (hops (layout_of l.layout) l.s))
