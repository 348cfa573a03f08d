-- `pcep_request_reader::check` meets its contract: the frame's checks, then the others (`Rest`).
use mathlib.Core.Path.{◌≡◌, sym, subst, ◌∙◌}
use Rattle.std.proofs.Common.{rules}
use Rattle.std.specs.Prelude.{Err}
use Rattle.pcep_request_reader.specs.ParsedPcreq.{PartsAre, ParsedPcreqIs}
use Rattle.pcep_request_reader.specs.Reading.{CheckedPcreqIs}
use Rattle.pcep_request_reader.proofs.Rest.{by_frame, behind_frame, all_pass}
use Rattle.pcep_request_reader.proofs.check.Goals as goal
use Rattle.pcep_request_reader.proofs.check.Goals.{In_ok-parts}

-- the parts are the message's
parts : (c : In_ok-parts) → PartsAre c.args.message.now c.in_ok-parts.parts
parts c = subst (ParsedPcreqIs c.args.message.now) c.in_ok-parts.was c.take_apart.ensures

pub returns-in_err-parts : goal.returns-in_err-parts
returns-in_err-parts c =
    let a = c.args in
    let x = c.in_err-parts.field-0.0 in
    let out : c.from_residual.result ≡ Err x = search rules in
    subst (CheckedPcreqIs a.message.now a.room) (sym out) (by_frame a.message.now a.room x (subst (ParsedPcreqIs a.message.now) c.in_err-parts.was c.take_apart.ensures))

pub rest_verdict-requires : goal.rest_verdict-requires
rest_verdict-requires c = parts (goal.at.rest_verdict-requires c).In_ok-parts

pub returns-in_err-rest_verdict : goal.returns-in_err-rest_verdict
returns-in_err-rest_verdict c =
    let a = c.args in
    let x = c.in_err-rest_verdict.field-0.0 in
    let out : c.from_residual-in_err-rest_verdict.result ≡ Err x = search rules in
    subst (CheckedPcreqIs a.message.now a.room) (sym out)
    (behind_frame a.message.now a.room (parts (goal.at.returns-in_err-rest_verdict c).In_ok-parts).verdict ∙ sym c.rest_verdict.ensures ∙ c.in_err-rest_verdict.was)

pub returns : goal.returns
returns c =
    let a = c.args in
    all_pass a.message.now a.room _ (parts (goal.at.returns c).In_ok-parts) (sym c.rest_verdict.ensures ∙ c.in_ok-rest_verdict.was)
