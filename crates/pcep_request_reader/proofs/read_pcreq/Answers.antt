-- `pcep_request_reader::read_pcreq` meets its contract: a refusal, or the fields with the METRICs put into the buffers (`Answers`).
use Prim.Native.Nat.{ℕ, min}
use mathlib.Core.Path.{◌≡◌, sym, ap, subst, ◌∙◌}
use native.Mathlib.Omega.{arith}
use lib.ListN.{length}
use Rattle.std.proofs.Common.{rules}
use Rattle.std.specs.Prelude.{Result, Err}
use Rattle.model.specs.declared.Refusal.{Refusal}
use Rattle.pcep_model.specs.declared.PcreqFields.{PcreqFields}
use Rattle.buffers.specs.Capacity.{least3}
use Rattle.pcep_request_reader.specs.Reading.{PassedPcreq, CheckedPcreqIs, ReadBy}
use Rattle.pcep_request_reader.proofs.Answers.{read-refused, read_done}
use Rattle.pcep_request_reader.proofs.read_pcreq.Goals as goal
use Rattle.pcep_request_reader.proofs.read_pcreq.Goals.{After-check, In_ok-fields}

-- the capacity is the least of the three
room-is : (c : After-check) → let a = c.args in c.lesser-room.result ≡ least3 a.kinds.now a.flags.now a.values.now
room-is c = let a = c.args in c.lesser-room.ensures ∙ ap (min (length a.kinds.now)) c.lesser.ensures

-- what the checks say, at that capacity
told : (c : After-check) → let a = c.args in CheckedPcreqIs a.message.now (least3 a.kinds.now a.flags.now a.values.now) c.check.result
told c =
    let a = c.args in
    subst (λ (n : ℕ). CheckedPcreqIs a.message.now n c.check.result) (room-is c) c.check.ensures

-- the fields are the message's, and there is room for its METRICs
passed : (c : In_ok-fields) → let a = c.args in PassedPcreq a.message.now (least3 a.kinds.now a.flags.now a.values.now) c.in_ok-fields.fields
passed c =
    let a = c.args in
    subst (CheckedPcreqIs a.message.now (least3 a.kinds.now a.flags.now a.values.now)) c.in_ok-fields.was (told (goal.at.In_ok-fields c).After-check)

pub put_metrics-requires : goal.put_metrics-requires
put_metrics-requires c =
    let k = passed (goal.at.put_metrics-requires c).In_ok-fields in
    let count = ap (λ (f : PcreqFields). f.metrics) k.fields in
    (k.passed, count, omega (arith, k.fits), omega (arith, k.fits), omega (arith, k.fits))

pub returns-in_err-fields : goal.returns-in_err-fields
returns-in_err-fields c =
    let a = c.args in
    let x = c.in_err-fields.field-0.0 in
    let out : c.from_residual.result ≡ Err x = search rules in
    subst (λ (r : Result PcreqFields Refusal). ReadBy a.message.now a.kinds.now a.flags.now a.values.now r a.kinds.now a.flags.now a.values.now) (sym out)
    (read-refused a.message.now a.kinds.now a.flags.now a.values.now x
    (subst (CheckedPcreqIs a.message.now (least3 a.kinds.now a.flags.now a.values.now)) c.in_err-fields.was (told (goal.at.returns-in_err-fields c).After-check)))

pub returns : goal.returns
returns c =
    let a = c.args in
    let k = passed (goal.at.returns c).In_ok-fields in
    read_done a.message.now a.kinds.now a.flags.now a.values.now _ _ _ _ k.verdict k.fields c.put_metrics.ensures.kinds_after c.put_metrics.ensures.flags_after c.put_metrics.ensures.values_after
