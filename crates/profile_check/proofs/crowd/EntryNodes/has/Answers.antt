-- `profile_check::crowd::EntryNodes::has` meets its contract. The loop's invariant: what is found so far is the answer for those passed.
use mathlib.Core.Path.{refl}
use native.Mathlib.Omega.{arith}
use Rattle.model.specs.Lists.{among}
use Rattle.profile_check.proofs.Scan.{found_next}
use Rattle.profile_check.proofs.crowd.EntryNodes.has.Goals as goal

pub loop-other-init : goal.loop-other-init
unfolding among
loop-other-init c = refl

pub loop-other-preserved : goal.loop-other-preserved
loop-other-preserved c =
    let l = c.loop-other in
    rw l.invariant (found_next c.args.self.now.nodes c.args.node.0 l.other-index (omega arith))
