-- `list_include::state::enter_domain` meets its contract: the tests are those of `enter`, in its order.
use mathlib.Core.Path.{refl, sym, ap, ◌∙◌}
use native.Mathlib.Omega.{arith}
use borrow.Author.Tests.{eqb-true, eqb-false}
use Rattle.model.specs.Sequence as M
use Rattle.list_include.specs.Reading.{state_of, Standing}
use Rattle.list_include.proofs.States.{step-refused, stepped-on, enter_here, enter-back, enter-full, enter_new, length-stops}
use Rattle.list_include.proofs.state.enter_domain.Goals as goal

pub returns-then-eq-clause-means : goal.returns-then-eq-clause-means
returns-then-eq-clause-means c =
    let a = c.args in
    λ list standing.
    stepped-on list a.at a.st.now _ _ (record { means = refl; sound = c.requires.0; standing = standing })
    (enter_here a.at (state_of list a.at a.st.now) a.d.0 (eqb-true _ _ (sym c.eq.ensures ∙ c.if-eq.true)))

pub returns-then-holds-clause-means : goal.returns-then-holds-clause-means
returns-then-holds-clause-means c =
    let a = c.args in
    λ list standing.
    step-refused (Standing list a.at) (state_of list a.at) _ _
    (enter-back a.at (state_of list a.at a.st.now) a.d.0 (eqb-false _ _ (sym c.eq.ensures ∙ c.if-eq.false)) (sym (c.holds.ensures list) ∙ c.if-holds.true) ∙ ap M.refused (sym c.refused_at.ensures))

pub returns-then-count-ge16-clause-means : goal.returns-then-count-ge16-clause-means
returns-then-count-ge16-clause-means c =
    let a = c.args in
    let full = c.if-count-ge16.true in
    λ list standing.
    step-refused (Standing list a.at) (state_of list a.at) _ _
    (enter-full a.at (state_of list a.at a.st.now) a.d.0 (eqb-false _ _ (sym c.eq.ensures ∙ c.if-eq.false)) (sym (c.holds.ensures list) ∙ c.if-holds.false) (omega (arith, length-stops list a.st.now))
    ∙ ap M.refused (sym c.refused_at-then-count-ge16.ensures))

pub returns-clause-means : goal.returns-clause-means
returns-clause-means c =
    let a = c.args in
    let room = c.if-count-ge16.false in
    λ list standing.
    stepped-on list a.at _ _ _ (c.add.ensures list standing)
    (enter_new a.at (state_of list a.at a.st.now) a.d.0 (eqb-false _ _ (sym c.eq.ensures ∙ c.if-eq.false)) (sym (c.holds.ensures list) ∙ c.if-holds.false) (omega (arith, length-stops list a.st.now)))
