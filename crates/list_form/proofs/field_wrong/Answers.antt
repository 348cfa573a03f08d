-- `list_form::field_wrong` meets its contract: at each `return` the type says which part of `field_wrong` counts.
use native.Mathlib.Omega.{arith}
use Prim.Native.Nat.{ℕ, ◌+◌, ◌-◌}
use mathlib.Core.Path.{ap, ap₂, ◌∙◌}
use mathlib.Core.Logic.{⊎_elim}
use mathlib.Core.Bool.{not}
use Rattle.model.specs.Reserved.{nobodys}
use Rattle.model.specs.Bytes.{part, all_zero}
use Rattle.list_subobject.proofs.FormLaws.{room_1, room_5, padded}
use Rattle.list_form.proofs.Zeros.{zeros}
use Rattle.list_form.proofs.FormChecks.{padding, field-1, field_7, field-5, field_32, field-6, field-33}
use Rattle.list_subobject.specs.Types.{number_of}
use Rattle.list_form.proofs.field_wrong.Goals as goal

pub prefix_wrong-requires : goal.prefix_wrong-requires
prefix_wrong-requires c = room_1 c.requires (c.type_there.ensures ∙ ap number_of c.in-Prefix.is)

pub returns-in-Prefix : goal.returns-in-Prefix
returns-in-Prefix c =
    let a = c.args in
    c.prefix_wrong.ensures ∙ field-1 a.kind a.list.now a.at (c.type_there.ensures ∙ ap number_of c.in-Prefix.is)

pub slice_bounds-all_zero-count : goal.slice_bounds-all_zero-count
slice_bounds-all_zero-count c =
    let n = padded c.requires (c.type_there.ensures ∙ ap number_of c.in-IsisArea.is) in
    let w = c.wide.ensures in
    let v = c.wide-in-IsisArea.ensures in
    omega arith

pub slice_bounds-all_zero-start : goal.slice_bounds-all_zero-start
slice_bounds-all_zero-start c =
    let n = padded c.requires (c.type_there.ensures ∙ ap number_of c.in-IsisArea.is) in
    let i = c.requires.inside in
    let w = c.wide.ensures in
    let v = c.wide-in-IsisArea.ensures in
    omega arith

pub returns-in-IsisArea : goal.returns-in-IsisArea
returns-in-IsisArea c =
    let a = c.args in
    let s = a.list.now in
    let e = c.type_there.ensures ∙ ap number_of c.in-IsisArea.is in
    ap not (c.all_zero.ensures ∙ zeros (part s (a.at + 4 + c.wide.result) ((a.at + c.wide-in-IsisArea.result) - (a.at + 4 + c.wide.result))))
    ∙ ap₂ (λ (x y : ℕ). not (all_zero (part s (a.at + 4 + x) ((a.at + y) - (a.at + 4 + x))))) c.wide.ensures.0 c.wide-in-IsisArea.ensures.0
    ∙ padding c.requires e
    ∙ field_7 a.kind s a.at e

pub u32_at-requires : goal.u32_at-requires
u32_at-requires c =
    let room = room_5 c.requires (c.type_there.ensures ∙ ap number_of c.in-WideSystem.is) in
    omega arith

pub returns-in-WideSystem : goal.returns-in-WideSystem
returns-in-WideSystem c =
    let a = c.args in
    c.as_nobodys.ensures ∙ ap nobodys c.u32_at.ensures ∙ field-5 a.kind a.list.now a.at (c.type_there.ensures ∙ ap number_of c.in-WideSystem.is)

pub returns-in-System : goal.returns-in-System
returns-in-System c =
    let a = c.args in
    c.as_nobodys-in-System.ensures ∙ ap nobodys c.u16_at.ensures ∙ field_32 a.kind a.list.now a.at (c.type_there.ensures ∙ ap number_of c.in-System.is)

pub returns-in-OspfArea : goal.returns-in-OspfArea
returns-in-OspfArea c =
    let a = c.args in
    ⊎_elim (λ e. field-6 a.kind a.list.now a.at (c.type_there.ensures ∙ ap number_of e))
    (λ e. field-33 a.kind a.list.now a.at (c.type_there.ensures ∙ ap number_of e))
    c.in-OspfArea.is
