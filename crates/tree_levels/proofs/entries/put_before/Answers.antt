-- `tree_levels::entries::put_before` meets its contract: the cells are moved one further, and the node is put in the cell that is free then (`Placing`).
use native.Mathlib.Omega.{arith}
use mathlib.Core.Path.{ap, ◌∙◌}
use lib.ListN.{set}
use Rattle.tree_levels.proofs.Placing.{shift}
use Rattle.tree_levels.proofs.entries.put_before.Goals as goal

pub returns : goal.returns
returns c =
    let a = c.args in
    ap (λ l. set l a.at a.node.0) c.copy_within.ensures.after ∙ shift a.addresses.now a.at a.end a.node.0 (omega arith) (omega arith)
