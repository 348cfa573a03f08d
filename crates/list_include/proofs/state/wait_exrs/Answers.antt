-- `list_include::state::wait_exrs` meets its contract: what waits stays as it is, with the EXRS behind it.
use mathlib.Core.Path.{sym, subst, ◌∙◌}
use Rattle.model.specs.Sequence as M
use Rattle.list_include.specs.declared.state.State.{State}
use Rattle.list_include.specs.Reading.{state_waits, state_of, StateIs}
use Rattle.list_include.proofs.States.{waits_more, pin-kept}
use Rattle.list_include.proofs.state.wait_exrs.Goals as goal

pub returns : goal.returns
returns c =
    let a = c.args in
    λ list bytes next standing past.
    subst (λ (s : State). StateIs list next s (M.waits_too a.at (state_of list a.at a.st.now) (M.exclusions bytes))) (sym c.waits_too.ensures)
    (waits_more list a.at next a.st.now (M.exclusions bytes) c.requires.0 standing past a.st.now.node c.first_left-first.result
    (standing.pin_is ∙ sym (pin-kept (state_waits list a.at a.st.now) a.at bytes)) c.first_left-first.ensures)
