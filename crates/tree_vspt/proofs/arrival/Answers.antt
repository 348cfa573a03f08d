-- `tree_vspt::arrival` meets its contract: the two answers of the test.
use mathlib.Core.Path.{sym, ap, ◌∙◌}
use mathlib.Core.Bool.{Bool, not}
use Rattle.tree_reaches.specs.Reaches.{code_if}
use Rattle.tree_vspt.proofs.arrival.Goals as goal

pub returns-then-excludes_node : goal.returns-then-excludes_node
returns-then-excludes_node c = sym (ap (λ (b : Bool). code_if (not b) 0) (sym c.excludes_node.ensures ∙ c.if-excludes_node.true))

pub returns : goal.returns
returns c = sym (ap (λ (b : Bool). code_if (not b) 0) (sym c.excludes_node.ensures ∙ c.if-excludes_node.false))
