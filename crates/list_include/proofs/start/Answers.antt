-- `list_include::start` meets its contract: one domain, the ingress, with no entry constraint.
use Rattle.list_include.proofs.Includes.{started}
use Rattle.list_include.proofs.start.Goals as goal

pub returns : goal.returns
returns c =
    let a = c.args in
    started a.profile.now a.ingress _ c.requires.1 c.u32_at.ensures
