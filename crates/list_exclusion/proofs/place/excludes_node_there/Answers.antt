-- `list_exclusion::place::excludes_node_there` meets its contract: the exclude list has one, or the EXRS of the stretch decide.
use mathlib.Core.Path.{◌≡◌, sym, ◌∙◌}
use borrow.Author.Rules.{rules}
use Rattle.model.specs.Subobject.{subobjects}
use Rattle.model.specs.Exclusion.{in_force, excluded_node}
use Rattle.laws.specs.Exrs.{carried_in}
use Rattle.list_exclusion.proofs.Exclusions.{bars_node, node_barred}
use Rattle.list_exclusion.proofs.Places.{node_either, by_first, by_second}
use Rattle.list_exclusion.proofs.place.excludes_node_there.Goals as goal

pub returns-then-excludes_node : goal.returns-then-excludes_node
returns-then-excludes_node c = c.if-excludes_node.true ∙ by_first _ _ (node_either _ _ _) (sym c.excludes_node.ensures ∙ c.if-excludes_node.true)

pub returns-else-excludes_node : goal.returns-else-excludes_node
returns-else-excludes_node c =
    let a = c.args in
    c.exrs_have.ensures (bars_node a.round a.node.0)
    (λ list b right returned.
    let out : b ≡ excluded_node (in_force a.round (subobjects list.now)) a.node.0 = search rules in
    out ∙ sym (node_barred a.round a.node.0 (subobjects list.now)))
    ∙ node_barred a.round a.node.0 (carried_in a.include.now a.from a.to)
    ∙ by_second _ _ (node_either _ _ _) (sym c.excludes_node.ensures ∙ c.if-excludes_node.false)
