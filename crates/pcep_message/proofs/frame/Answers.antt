-- `pcep_message::frame` meets its contract: each `return` is one of the ways in which the checks come out (`Frames`).
use mathlib.Core.Path.{◌≡◌, sym, subst, ◌∙◌}
use mathlib.Core.Bool.{false}
use Rattle.std.proofs.Common.{rules}
use Rattle.std.specs.Prelude.{Err}
use Rattle.pcep_model.specs.Objects.{header_wrong}
use Rattle.pcep_message.specs.Walked.{ObjectsAre, ObjectsPassed}
use Rattle.pcep_message.specs.Framed.{FrameIs}
use Rattle.pcep_message.proofs.Frames.{by_object, by_missing, frame_passes}
use Rattle.pcep_message.proofs.frame.Goals as goal
use Rattle.pcep_message.proofs.frame.Goals.{Else-header_wrong, In_ok-firsts}

-- the header is right
right : (c : Else-header_wrong) → let a = c.args in header_wrong a.kind a.message.now ≡ false
right c = sym c.header_wrong.ensures.0 ∙ c.if-header_wrong.false

-- and so are the objects
passed : (c : In_ok-firsts) → let a = c.args in ObjectsPassed a.kind a.message.now c.in_ok-firsts.firsts
passed c = let a = c.args in subst (ObjectsAre a.kind a.message.now) c.in_ok-firsts.was c.objects_in.ensures

pub objects_in-requires : goal.objects_in-requires
objects_in-requires c = c.header_wrong.ensures.1 c.if-header_wrong.false

pub returns-in_err-firsts : goal.returns-in_err-firsts
returns-in_err-firsts c =
    let a = c.args in
    let x = c.in_err-firsts.field-0.0 in
    let out : c.from_residual.result ≡ Err x = search rules in
    subst (FrameIs a.kind a.message.now) (sym out)
    (by_object a.kind a.message.now (right (goal.at.returns-in_err-firsts c).Else-header_wrong) x (subst (ObjectsAre a.kind a.message.now) c.in_err-firsts.was c.objects_in.ensures))

pub returns-in_err-missing : goal.returns-in_err-missing
returns-in_err-missing c =
    let a = c.args in
    let x = c.in_err-missing.field-0.0 in
    let out : c.from_residual-in_err-missing.result ≡ Err x = search rules in
    subst (FrameIs a.kind a.message.now) (sym out)
    (by_missing a.kind a.message.now (right (goal.at.returns-in_err-missing c).Else-header_wrong) c.in_ok-firsts.firsts (passed (goal.at.returns-in_err-missing c).In_ok-firsts) ∙ sym c.missing.ensures ∙ c.in_err-missing.was)

pub returns : goal.returns
returns c =
    let a = c.args in
    let size = c.header_wrong.ensures.1 c.if-header_wrong.false in
    frame_passes a.kind a.message.now (right (goal.at.returns c).Else-header_wrong) c.in_ok-firsts.firsts (passed (goal.at.returns c).In_ok-firsts) (sym c.missing.ensures ∙ c.in_ok-missing.was) size.0 size.1
