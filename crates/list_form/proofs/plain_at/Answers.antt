-- `list_form::plain_at` meets its contract: the tests that led to each `return` are the checks of `plain_verdict` in their order.
use Rattle.std.specs.Prelude.{None}
use Prim.Native.Nat.{◌+◌, ◌≤◌}
use mathlib.Core.Path.{◌≡◌, sym, ◌∙◌}
use native.Mathlib.Omega.{arith}
use Rattle.model.specs.Subobject.{length_at}
use Rattle.list_form.proofs.FormChecks.{head, no-value, head-fits, short, bad_head, past_end, by_field}
use Rattle.list_form.proofs.plain_at.Goals as goal
use Rattle.list_form.proofs.plain_at.Goals.{Else-left-lt4, Else-left-wide, In_default}

-- what the tests passed say, place by place
four : (c : Else-left-lt4) → c.args.at + 4 ≤ c.args.end
four c = omega arith

right-head : (c : In_default) → let a = c.args in head a.kind a.list.now a.end a.at ≡ None
right-head c = sym c.head_wrong.ensures ∙ no-value c.head_wrong.result c.in_default.not-Some

in_list : (c : Else-left-wide) → let a = c.args in a.at + length_at a.list.now a.at ≤ a.end
in_list c =
    let n = c.wide.ensures.0 in
    let h = c.requires.0 in
    omega arith

pub returns-then-left-lt4 : goal.returns-then-left-lt4
returns-then-left-lt4 c =
    let a = c.args in
    c.refuse_at.ensures ∙ sym (short a.kind a.list.now a.end a.at (omega arith))

pub returns-in-Some : goal.returns-in-Some
returns-in-Some c =
    let a = c.args in
    c.refuse_at-in-Some.ensures
    ∙ sym (bad_head a.kind a.list.now a.end a.at (four (goal.at.returns-in-Some c).Else-left-lt4) c.in-Some.reason (sym c.head_wrong.ensures ∙ c.in-Some.is))

pub returns-then-left-wide : goal.returns-then-left-wide
returns-then-left-wide c =
    let a = c.args in
    let n = c.wide.ensures.0 in
    let h = c.requires.0 in
    c.refuse_at-then-left-wide.ensures
    ∙ sym (past_end a.kind a.list.now a.end a.at (four (goal.at.returns-then-left-wide c).Else-left-lt4) (right-head (goal.at.returns-then-left-wide c).In_default) (omega arith))

pub field_wrong-requires : goal.field_wrong-requires
field_wrong-requires c =
    let a = c.args in
    record {
      kind = a.kind;
      long = omega (arith, four (goal.at.field_wrong-requires c).Else-left-lt4);
      inside = omega (arith, in_list (goal.at.field_wrong-requires c).Else-left-wide);
      fits = head-fits a.kind a.list.now a.end a.at (right-head (goal.at.field_wrong-requires c).In_default);
    }

pub returns-then-field_wrong : goal.returns-then-field_wrong
returns-then-field_wrong c =
    let a = c.args in
    c.refuse_at-then-field_wrong.ensures
    ∙ sym (by_field a.kind a.list.now a.end a.at (four (goal.at.returns-then-field_wrong c).Else-left-lt4) (right-head (goal.at.returns-then-field_wrong c).In_default) (sym c.if-field_wrong.true ∙ c.field_wrong.ensures) (in_list (goal.at.returns-then-field_wrong c).Else-left-wide))

pub returns : goal.returns
returns c =
    let a = c.args in
    sym (by_field a.kind a.list.now a.end a.at (four (goal.at.returns c).Else-left-lt4) (right-head (goal.at.returns c).In_default) (sym c.if-field_wrong.false ∙ c.field_wrong.ensures) (in_list (goal.at.returns c).Else-left-wide))
