-- `list_include::state::holds` meets its contract: the domains so far are those of the sequence.
use mathlib.Core.Path.{◌∙◌}
use Rattle.list_include.proofs.States.{held}
use Rattle.list_include.proofs.state.holds.Goals as goal

pub returns : goal.returns
returns c = λ list. c.any_in.ensures ∙ held list c.args.st.now c.requires c.args.d.0
