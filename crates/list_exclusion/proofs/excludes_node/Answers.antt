-- `list_exclusion::excludes_node` meets its contract: the test that is made is whether an exclusion bars the node.
use mathlib.Core.Path.{◌∙◌}
use borrow.Author.Rules.{rules}
use Rattle.model.specs.Subobject.{subobjects}
use Rattle.list_exclusion.proofs.Exclusions.{bars_node, node_barred}
use Rattle.list_exclusion.proofs.excludes_node.Goals as goal

pub returns : goal.returns
returns c =
    let a = c.args in
    c.some_passes.ensures (bars_node a.round a.node.0) (λ item b inside returned. search rules) ∙ node_barred a.round a.node.0 (subobjects a.list.now)
