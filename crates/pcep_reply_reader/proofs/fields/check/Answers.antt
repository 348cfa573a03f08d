-- `pcep_reply_reader::fields::check` meets its contract: each `return` is one of the ways in which the checks come out (`Checks`), over the body of the ERO that counts (`Route`).
use Prim.Native.Nat.{ℕ, ◌*◌}
use mathlib.Core.Path.{◌≡◌, sym, ap, ap₂, subst, ◌∙◌}
use mathlib.Core.Bool.{Bool}
use mathlib.Core.List.{List}
use native.Mathlib.Omega.{arith}
use lib.ListN.{length}
use Rattle.std.proofs.Common.{rules}
use Rattle.std.specs.Prelude.{Option, Err}
use Rattle.model.specs.Verdict.{Pass, refuse_if}
use Rattle.pcep_model.specs.declared.MessageKind.TheVariants.{Pcrep}
use Rattle.pcep_model.specs.Objects.{ERO, NO-PATH, first_object}
use Rattle.pcep_model.specs.Pcreq.{list_in}
use Rattle.pcep_model.specs.Pcrep.{route_in, ero_verdict, addresses_in, pcrep_verdict}
use Rattle.pcep_laws.specs.Firsts.{placed}
use Rattle.pcep_laws.specs.Left.{Stands}
use Rattle.pcep_laws.proofs.Firsts.{for_placed}
use Rattle.pcep_ero.proofs.Addresses.{eight_each}
use Rattle.pcep_message.specs.Extents.{extent_in}
use Rattle.pcep_message.specs.Framed.{FrameIs, FramePassed}
use Rattle.pcep_reply_reader.specs.CheckedPcrep.{route_at, rest_verdict, CheckedPcrepIs}
use Rattle.pcep_reply_reader.proofs.Route.{route, route_placed, route_stands, body_is}
use Rattle.pcep_reply_reader.proofs.Checks.{list-short, rest_form, by_frame, by_metric, none-wrong, by_rest, accepted, passed, framed}
use Rattle.pcep_reply_reader.proofs.fields.check.Goals as goal
use Rattle.pcep_reply_reader.proofs.fields.check.Goals.{After-list_in-body, After-rest_verdict, After-route_at, In_ok-firsts, In_ok-rest_verdict}

-- the frame passes
frame : (c : In_ok-firsts) → FramePassed Pcrep c.args.message.now c.in_ok-firsts.firsts
frame c = subst (FrameIs Pcrep c.args.message.now) c.in_ok-firsts.was c.frame.ensures

-- the place gone by is the definition's
route-is : (c : After-route_at) → c.route_at.result ≡ placed (route c.args.message.now)
route-is c =
    let s = c.args.message.now in
    let f = frame (goal.at.After-route_at c).In_ok-firsts in
    c.route_at.ensures ∙ ap₂ route_at (f.firsts ERO (omega arith)) (f.firsts NO-PATH (omega arith)) ∙ route_placed (first_object ERO s) (first_object NO-PATH s)

-- the body lent is that of the ERO that counts, and no longer than the message
body : (c : After-list_in-body) → c.list_in-body.result.now ≡ route_in c.args.message.now
body c =
    let s = c.args.message.now in
    c.list_in-body.ensures
    ∙ body_is s c.extent_of-route.result (c.extent_of-route.ensures.is ∙ ap (λ (at : Option ℕ). extent_in s at 4) (route-is (goal.at.After-list_in-body c).After-route_at))

-- what is behind the frame and the METRICs decides
rest-is
    : (c : After-rest_verdict)
    → let a = c.args in rest_verdict c.list_in-body.result.now c.judge-met.result.count a.address_room a.metric_room ≡ pcrep_verdict a.message.now a.address_room a.metric_room
rest-is c =
    let a = c.args in
    let s = a.message.now in
    let f = frame (goal.at.After-rest_verdict c).In_ok-firsts in
    let j = c.judge-met.ensures in
    let none = none-wrong s a.address_room a.metric_room f.verdict c.judge-met.result.wrong j.wrong (ap (λ (b : Bool). refuse_if b 21 1) (sym c.is_some.ensures) ∙ sym c.refuse_if.ensures ∙ c.in_ok-refuse_if.was) in
    by_rest s a.address_room a.metric_room f.verdict none _ (body (goal.at.After-rest_verdict c).After-list_in-body) _ j.count

-- the form passes where the rest does
form : (c : In_ok-rest_verdict) → ero_verdict c.list_in-body.result.now ≡ Pass
form c =
    let a = c.args in
    rest_form c.list_in-body.result.now c.judge-met.result.count a.address_room a.metric_room (sym c.rest_verdict.ensures ∙ c.in_ok-rest_verdict.was)

pub returns-in_err-firsts : goal.returns-in_err-firsts
returns-in_err-firsts c =
    let a = c.args in
    let x = c.in_err-firsts.field-0.0 in
    let out : c.from_residual.result ≡ Err x = search rules in
    subst (CheckedPcrepIs a.message.now a.address_room a.metric_room) (sym out)
    (by_frame a.message.now a.address_room a.metric_room x (subst (FrameIs Pcrep a.message.now) c.in_err-firsts.was c.frame.ensures))

pub judge-met-requires : goal.judge-met-requires
judge-met-requires c = passed c.args.message.now c.in_ok-firsts.firsts (frame (goal.at.judge-met-requires c).In_ok-firsts)

pub returns-in_err-refuse_if : goal.returns-in_err-refuse_if
returns-in_err-refuse_if c =
    let a = c.args in
    let f = frame (goal.at.returns-in_err-refuse_if c).In_ok-firsts in
    let x = c.in_err-refuse_if.field-0.0 in
    let out : c.from_residual-in_err-refuse_if.result ≡ Err x = search rules in
    subst (CheckedPcrepIs a.message.now a.address_room a.metric_room) (sym out)
    (by_metric a.message.now a.address_room a.metric_room f.verdict c.judge-met.result.wrong c.judge-met.ensures.wrong x (ap (λ (b : Bool). refuse_if b 21 1) (sym c.is_some.ensures) ∙ sym c.refuse_if.ensures ∙ c.in_err-refuse_if.was))

pub extent_of-route-requires : goal.extent_of-route-requires
extent_of-route-requires c =
    let s = c.args.message.now in
    let f = frame (goal.at.extent_of-route-requires c).In_ok-firsts in
    (f.short, omega arith, for_placed c.route_at.result (route s) (route-is (goal.at.extent_of-route-requires c).After-route_at) (λ (at : ℕ). Stands s at 4) (λ some. route_stands s f.objects some))

pub rest_verdict-requires : goal.rest_verdict-requires
rest_verdict-requires c =
    let short = (frame (goal.at.rest_verdict-requires c).In_ok-firsts).short in
    let l = ap length c.list_in-body.ensures in
    let n = list-short c.args.message.now c.extent_of-route.result in
    omega arith

pub returns-in_err-rest_verdict : goal.returns-in_err-rest_verdict
returns-in_err-rest_verdict c =
    let a = c.args in
    let x = c.in_err-rest_verdict.field-0.0 in
    let out : c.from_residual-in_err-rest_verdict.result ≡ Err x = search rules in
    subst (CheckedPcrepIs a.message.now a.address_room a.metric_room) (sym out)
    (sym (c.rest_verdict.ensures ∙ rest-is (goal.at.returns-in_err-rest_verdict c).After-rest_verdict) ∙ c.in_err-rest_verdict.was)

pub address_count-requires : goal.address_count-requires
address_count-requires c = form (goal.at.address_count-requires c).In_ok-rest_verdict

pub fields_of-fields-requires : goal.fields_of-fields-requires
fields_of-fields-requires c =
    let s = c.args.message.now in
    let f = frame (goal.at.fields_of-fields-requires c).In_ok-firsts in
    let j = c.judge-met.ensures in
    let n : c.address_count.result ≡ length (addresses_in c.list_in-body.result.now) = c.address_count.ensures in
    let is = body (goal.at.fields_of-fields-requires c).After-list_in-body in
    let eight : length c.list_in-body.result.now ≡ 8 * length (addresses_in c.list_in-body.result.now) = eight_each c.list_in-body.result.now (form (goal.at.fields_of-fields-requires c).In_ok-rest_verdict) in
    let l : length c.list_in-body.result.now ≡ length (list_in s c.extent_of-route.result) = ap length c.list_in-body.ensures in
    let short = f.short in
    let most = list-short s c.extent_of-route.result in
    framed s c.in_ok-firsts.firsts f _ _ (n ∙ ap (λ (b : List ℕ). length (addresses_in b)) is) (omega arith) j.count j.most

pub returns : goal.returns
returns c =
    let a = c.args in
    let s = a.message.now in
    let f = frame (goal.at.returns c).In_ok-firsts in
    let j = c.judge-met.ensures in
    let is = body (goal.at.returns c).After-list_in-body in
    let same = ap₂ (λ (b : List ℕ) (n : ℕ). rest_verdict b n a.address_room a.metric_room) is j.count in
    accepted s a.address_room a.metric_room (sym same ∙ rest-is (goal.at.returns c).After-rest_verdict) (sym c.in_ok-rest_verdict.was ∙ c.rest_verdict.ensures ∙ same) (passed s c.in_ok-firsts.firsts f) _ c.fields_of-fields.ensures _ c.extent_of-route.ensures.inside (sym c.list_in-body.ensures ∙ is)
