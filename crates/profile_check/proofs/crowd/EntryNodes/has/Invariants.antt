-- `profile_check::crowd::EntryNodes::has` meets its contract. The loop's invariant: what is found so far is the answer for those passed.
use Rattle.model.specs.Lists.{among}
use lib.ListN.{take}
use mathlib.Core.Path.{◌≡◌}
use Rattle.profile_check.proofs.crowd.EntryNodes.has.Given as goal

abbrev pub invariant-loop-other : goal.invariant-loop-other
invariant-loop-other l = l.found ≡ among l.node.0 (take l.other-index l.self.nodes)
