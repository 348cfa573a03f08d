-- `pcep_reply_reader::read_pcrep` meets its contract: a refusal, or the fields with addresses and METRICs put into the buffers (`Answers`).
use Prim.Native.Nat.{ℕ, min}
use mathlib.Core.Path.{◌≡◌, sym, ap, subst, ◌∙◌}
use mathlib.Core.List.{List}
use native.Mathlib.Omega.{arith}
use lib.ListN.{length, drop, length-take, length-drop}
use Rattle.std.proofs.Common.{rules}
use Rattle.std.specs.Prelude.{Result, Err}
use Rattle.model.specs.declared.Refusal.{Refusal}
use Rattle.model.specs.Lists.{over}
use Rattle.pcep_model.specs.declared.PcrepFields.{PcrepFields}
use Rattle.pcep_model.specs.Pcrep.{addresses_in, route_in, ero_verdict}
use Rattle.buffers.specs.Capacity.{least3}
use Rattle.pcep_reply_reader.specs.CheckedPcrep.{PassedPcrep, CheckedPcrepIs}
use Rattle.pcep_reply_reader.specs.Reading.{ReadBy}
use Rattle.pcep_reply_reader.proofs.Answers.{read-refused, read_done}
use Rattle.pcep_reply_reader.proofs.read_pcrep.Goals as goal
use Rattle.pcep_reply_reader.proofs.read_pcrep.Goals.{After-check, After-list_in, In_ok-checked}

-- the capacity for METRICs is the least of the three
room-is : (c : After-check) → let a = c.args in c.lesser-room.result ≡ least3 a.kinds.now a.flags.now a.values.now
room-is c = let a = c.args in c.lesser-room.ensures ∙ ap (min (length a.kinds.now)) c.lesser.ensures

-- what the checks say, at these capacities
told : (c : After-check) → let a = c.args in CheckedPcrepIs a.message.now (length a.addresses.now) (least3 a.kinds.now a.flags.now a.values.now) c.check.result
told c =
    let a = c.args in
    subst (λ (n : ℕ). CheckedPcrepIs a.message.now (length a.addresses.now) n c.check.result) (room-is c) c.check.ensures

-- and where they pass
passed : (c : In_ok-checked) → let a = c.args in PassedPcrep a.message.now (length a.addresses.now) (least3 a.kinds.now a.flags.now a.values.now) c.in_ok-checked.checked.fields c.in_ok-checked.checked.route
passed c =
    let a = c.args in
    subst (CheckedPcrepIs a.message.now (length a.addresses.now) (least3 a.kinds.now a.flags.now a.values.now)) c.in_ok-checked.was (told (goal.at.In_ok-checked c).After-check)

-- the body lent is that of the ERO that counts
body : (c : After-list_in) → c.list_in.result.now ≡ route_in c.args.message.now
body c = c.list_in.ensures ∙ (passed (goal.at.After-list_in c).In_ok-checked).route

pub list_in-requires : goal.list_in-requires
list_in-requires c = (passed (goal.at.list_in-requires c).In_ok-checked).inside

pub put_addresses-requires : goal.put_addresses-requires
put_addresses-requires c =
    let s = c.args.message.now in
    let k = passed (goal.at.put_addresses-requires c).In_ok-checked in
    let is = body (goal.at.put_addresses-requires c).After-list_in in
    let route = c.in_ok-checked.checked.route in
    let l = ap length c.list_in.ensures in
    let fits = k.addresses-fit in (
      ap ero_verdict is ∙ k.form,
      omega (arith, length-take route.size (drop route.start s), length-drop route.start s, k.passed.short),
      let n = ap (λ (b : List ℕ). length (addresses_in b)) is in omega arith,
    )

pub put_metrics-requires : goal.put_metrics-requires
put_metrics-requires c =
    let k = passed (goal.at.put_metrics-requires c).In_ok-checked in
    let count = ap (λ (f : PcrepFields). f.metrics) k.fields in
    (k.passed, count, omega (arith, k.metrics-fit), omega (arith, k.metrics-fit), omega (arith, k.metrics-fit))

pub returns-in_err-checked : goal.returns-in_err-checked
returns-in_err-checked c =
    let a = c.args in
    let x = c.in_err-checked.field-0.0 in
    let out : c.from_residual.result ≡ Err x = search rules in
    subst (λ (r : Result PcrepFields Refusal). ReadBy a.message.now a.addresses.now a.kinds.now a.flags.now a.values.now r a.addresses.now a.kinds.now a.flags.now a.values.now) (sym out)
    (read-refused a.message.now a.addresses.now a.kinds.now a.flags.now a.values.now x
    (subst (CheckedPcrepIs a.message.now (length a.addresses.now) (least3 a.kinds.now a.flags.now a.values.now)) c.in_err-checked.was (told (goal.at.returns-in_err-checked c).After-check)))

pub returns : goal.returns
returns c =
    let a = c.args in
    let k = passed (goal.at.returns c).In_ok-checked in
    read_done a.message.now a.addresses.now a.kinds.now a.flags.now a.values.now _ _ _ _ _ k.verdict k.fields
    (c.put_addresses.ensures ∙ ap (λ (b : List ℕ). over (addresses_in b) a.addresses.now) (body (goal.at.returns c).After-list_in)) c.put_metrics.ensures.kinds_after c.put_metrics.ensures.flags_after c.put_metrics.ensures.values_after
