-- `pcep_request_calls::pcreq_first` meets its contract: the frame's refusal, or the path on the request that is carried.
use Prim.Native.Nat.{ℕ}
use mathlib.Core.Path.{◌≡◌, sym, ap, subst, ◌∙◌}
use lib.ListN.{length}
use Rattle.std.proofs.Common.{rules}
use Rattle.std.specs.Prelude.{Result, Err}
use Rattle.model.specs.declared.Refusal.{Refusal}
use Rattle.model.specs.declared.PathAnswer.{PathAnswer}
use Rattle.model.specs.Request.{Request}
use Rattle.model.specs.Calls as Calls
use Rattle.model.specs.Calls.{Outcome}
use Rattle.pcep_model.specs.declared.MessageKind.TheVariants.{Pcreq}
use Rattle.pcep_model.specs.Objects.{message_verdict}
use Rattle.pcep_model.specs.Pcreq.{pcreq_first, carried}
use Rattle.pcep_request_reader.specs.Carried.{CarriedRequestIs, CarriedIs}
use Rattle.pcep_request_calls.specs.Through.{PathIn}
use Rattle.pcep_request_calls.proofs.Through.{behind-passed, path_refused, same-request}
use Rattle.pcep_request_calls.proofs.pcreq_first.Goals as goal
use Rattle.pcep_request_calls.proofs.pcreq_first.Goals.{In_ok-request}

-- the request is the one that the message carries
request : (c : In_ok-request) → CarriedRequestIs c.args.ingress.0 c.args.message.now c.in_ok-request.request
request c = subst (CarriedIs c.args.ingress.0 c.args.message.now) c.in_ok-request.was c.carried_by.ensures

pub list_in-include-requires : goal.list_in-include-requires
list_in-include-requires c = (request (goal.at.list_in-include-requires c).In_ok-request).include-inside

pub list_in-exclude-requires : goal.list_in-exclude-requires
list_in-exclude-requires c = (request (goal.at.list_in-exclude-requires c).In_ok-request).exclude-inside

pub returns-in_err-request : goal.returns-in_err-request
unfolding pcreq_first
returns-in_err-request c =
    let a = c.args in
    let x = c.in_err-request.field-0.0 in
    let out : c.from_residual.result ≡ Err x = search rules in
    subst (λ (r : Result PathAnswer Refusal). PathIn (pcreq_first a.profile.now a.ingress.0 a.message.now (length a.path.now)) a.path.now r a.path.now) (sym out)
    (path_refused (message_verdict Pcreq a.message.now) (Calls.first (carried a.profile.now a.ingress.0 a.message.now) (length a.path.now)) a.path.now x
    (subst (CarriedIs a.ingress.0 a.message.now) c.in_err-request.was c.carried_by.ensures))

pub returns : goal.returns
unfolding pcreq_first
returns c =
    let a = c.args in
    let s = a.message.now in
    let is = request (goal.at.returns c).In_ok-request in
    let by : Request → Outcome ℕ = λ r. Calls.first r (length a.path.now) in
    let same = ap by (same-request a.ingress.0 s _ is a.profile.now _ _ c.list_in-include.ensures c.list_in-exclude.ensures) in
    subst (λ (o : Outcome ℕ). PathIn o a.path.now c.first.result c.first.new.path) (same ∙ sym (behind-passed (message_verdict Pcreq s) (by (carried a.profile.now a.ingress.0 s)) is.verdict))
    (record { real = c.first.ensures.real; numbers = c.first.ensures.result_value; in_path = c.first.ensures.path_after })
