-- `list_include::state::wait_for` meets its contract: whether an entry constraint waits says which case of `wait` it is.
use mathlib.Core.Path.{sym, ap, subst, ◌∙◌}
use Rattle.std.specs.Prelude.{Some, Ok}
use Rattle.model.specs.Sequence as M
use Rattle.list_include.specs.declared.state.State.{State}
use Rattle.list_include.specs.Reading.{state_waits, state_of, ReadStepIs}
use Rattle.list_include.proofs.States.{stepped-on, waits_more, none_waiting, pin-last}
use Rattle.list_include.proofs.state.wait_for.Goals as goal

pub returns-clause-means : goal.returns-clause-means
returns-clause-means c =
    let a = c.args in
    λ list next standing past.
    let w = state_waits list a.at a.st.now in
    let free = none_waiting a.st.now.node (M.pin_of w) standing.pin_is (sym c.is_some.ensures ∙ c.if-is_some.false) in
    subst (λ (s : State). ReadStepIs list next (Ok s) (M.wait a.at (state_of list a.at a.st.now) a.node.0 (M.pin_of w))) (sym c.waits_too.ensures)
    (stepped-on list next _ _ _
    (waits_more list a.at next a.st.now (M.entry a.node.0) c.requires.0 standing past (Some a.node) c.first_left-first.result (sym (pin-last w a.at a.node.0 free)) c.first_left-first.ensures)
    (ap (M.wait a.at (state_of list a.at a.st.now) a.node.0) free))
