-- `pcep_ero::step_verdict` meets its contract: the tests that led to each `return` are the checks of `step_verdict` in their order.
use mathlib.Core.Path.{sym, ◌∙◌}
use native.Mathlib.Omega.{arith}
use Rattle.pcep_ero.proofs.Steps.{short, other-type, top_set, other_length, past_end, other-prefix, right}
use Rattle.pcep_ero.proofs.step_verdict.Goals as goal

pub returns-then-left-lt4 : goal.returns-then-left-lt4
returns-then-left-lt4 c =
    let a = c.args in
    c.refuse.ensures ∙ sym (short a.body.now a.at (omega arith))

pub returns-then-first-ne1 : goal.returns-then-first-ne1
returns-then-first-ne1 c =
    let a = c.args in
    c.refuse-then-first-ne1.ensures ∙ sym (other-type a.body.now a.at (omega arith) c.if-first-ne1.true)

pub returns-then-first-ge128 : goal.returns-then-first-ge128
returns-then-first-ge128 c =
    let a = c.args in
    c.refuse-then-first-ge128.ensures ∙ sym (top_set a.body.now a.at (omega arith) c.if-first-ne1.false c.if-first-ge128.true)

pub returns-then-body-at-ne8 : goal.returns-then-body-at-ne8
returns-then-body-at-ne8 c =
    let a = c.args in
    c.refuse-then-body-at-ne8.ensures ∙ sym (other_length a.body.now a.at (omega arith) c.if-first-ne1.false c.if-first-ge128.false c.if-body-at-ne8.true)

pub returns-then-left-lt8 : goal.returns-then-left-lt8
returns-then-left-lt8 c =
    let a = c.args in
    c.refuse-then-left-lt8.ensures ∙ sym (past_end a.body.now a.at (omega arith) c.if-first-ne1.false c.if-first-ge128.false c.if-body-at-ne8.false (omega arith))

pub returns-then-body-at-ne32 : goal.returns-then-body-at-ne32
returns-then-body-at-ne32 c =
    let a = c.args in
    c.refuse-then-body-at-ne32.ensures ∙ sym (other-prefix a.body.now a.at (omega arith) c.if-first-ne1.false c.if-first-ge128.false c.if-body-at-ne8.false (omega arith) c.if-body-at-ne32.true)

pub returns : goal.returns
returns c =
    let a = c.args in
    sym (right a.body.now a.at (omega arith) c.if-first-ne1.false c.if-first-ge128.false c.if-body-at-ne8.false (omega arith) c.if-body-at-ne32.false)
