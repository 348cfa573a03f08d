-- `list_include::read_system` meets its contract: followed by an area the AS only becomes current, else what was found is named.
use mathlib.Core.Path.{sym, ap, subst, ◌∙◌}
use Rattle.model.specs.Sequence as M
use Rattle.model.specs.Request.{reading_input}
use Rattle.list_include.specs.Reading.{state_of, ReadStepIs, name_found}
use Rattle.list_include.proofs.States.{stepped-on, named-found}
use Rattle.list_include.proofs.read_system.Goals as goal

pub returns-then-follows : goal.returns-then-follows
returns-then-follows c =
    let a = c.args in
    λ list standing.
    stepped-on list a.at _ _ _ (c.with_asn.ensures.1 list a.at standing)
    (ap (M.read_system (reading_input a.profile.now) a.at (state_of list a.at a.st.now) a.asn) c.if-follows.true)

pub returns : goal.returns
returns c =
    let a = c.args in
    let R = reading_input a.profile.now in
    λ list standing.
    let next = M.with_system (state_of list a.at a.st.now) a.asn in
    let set = c.with_asn.ensures.1 list a.at standing in
    subst (ReadStepIs list a.at _)
    (ap (λ (x : M.State). name_found a.at x c.of_system-found.result) set.means
    ∙ ap (name_found a.at next) c.of_system-found.ensures
    ∙ sym (named-found a.at next (M.of_system R.domains a.asn))
    ∙ sym (ap (M.read_system R a.at (state_of list a.at a.st.now) a.asn) c.if-follows.false))
    (c.name_found.ensures.means list set.standing)
