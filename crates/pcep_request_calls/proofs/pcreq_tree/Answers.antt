-- `pcep_request_calls::pcreq_tree` meets its contract: the frame's refusal, or the tree of the request that is carried.
use mathlib.Core.Path.{◌≡◌, sym, ap, subst, ◌∙◌}
use Rattle.model.specs.declared.TreeEntry.{TreeEntry}
use Rattle.std.proofs.Common.{rules}
use Rattle.std.specs.Prelude.{Result, Err}
use Rattle.model.specs.declared.Refusal.{Refusal}
use Rattle.model.specs.declared.BuiltTree.{BuiltTree}
use Rattle.model.specs.Request.{Request}
use Rattle.model.specs.Calls.{Outcome, build_tree}
use Rattle.buffers.specs.Capacity.{least4}
use Rattle.tree_fields.specs.TreeResult.{TreeIn}
use Rattle.pcep_model.specs.declared.MessageKind.TheVariants.{Pcreq}
use Rattle.pcep_model.specs.Objects.{message_verdict}
use Rattle.pcep_model.specs.Pcreq.{pcreq_tree, carried}
use Rattle.pcep_request_reader.specs.Carried.{CarriedRequestIs, CarriedIs}
use Rattle.pcep_request_calls.proofs.Through.{behind-passed, tree-refused, same-request}
use Rattle.pcep_request_calls.proofs.pcreq_tree.Goals as goal
use Rattle.pcep_request_calls.proofs.pcreq_tree.Goals.{In_ok-request}

-- the request is the one that the message carries
request : (c : In_ok-request) → CarriedRequestIs c.args.ingress.0 c.args.message.now c.in_ok-request.request
request c = subst (CarriedIs c.args.ingress.0 c.args.message.now) c.in_ok-request.was c.carried_by.ensures

pub list_in-include-requires : goal.list_in-include-requires
list_in-include-requires c = (request (goal.at.list_in-include-requires c).In_ok-request).include-inside

pub list_in-exclude-requires : goal.list_in-exclude-requires
list_in-exclude-requires c = (request (goal.at.list_in-exclude-requires c).In_ok-request).exclude-inside

pub returns-in_err-request : goal.returns-in_err-request
unfolding pcreq_tree
returns-in_err-request c =
    let a = c.args in
    let x = c.in_err-request.field-0.0 in
    let out : c.from_residual.result ≡ Err x = search rules in
    subst (λ (r : Result BuiltTree Refusal). TreeIn (pcreq_tree a.profile.now a.ingress.0 a.message.now (least4 a.level.now a.address.now a.reachable.now a.cost.now)) a.level.now a.address.now a.reachable.now a.cost.now r a.level.now a.address.now a.reachable.now a.cost.now) (sym out)
    (tree-refused (message_verdict Pcreq a.message.now) (build_tree (carried a.profile.now a.ingress.0 a.message.now) (least4 a.level.now a.address.now a.reachable.now a.cost.now)) a.level.now a.address.now a.reachable.now a.cost.now x
    (subst (CarriedIs a.ingress.0 a.message.now) c.in_err-request.was c.carried_by.ensures))

pub returns : goal.returns
unfolding pcreq_tree
returns c =
    let a = c.args in
    let s = a.message.now in
    let is = request (goal.at.returns c).In_ok-request in
    let t = c.tree_numbers in
    let by : Request → Outcome TreeEntry = λ r. build_tree r (least4 a.level.now a.address.now a.reachable.now a.cost.now) in
    let same = ap by (same-request a.ingress.0 s _ is a.profile.now _ _ c.list_in-include.ensures c.list_in-exclude.ensures) in
    subst
    (λ (o : Outcome TreeEntry). TreeIn o a.level.now a.address.now a.reachable.now a.cost.now t.result t.new.level t.new.address t.new.reachable t.new.cost)
    (same ∙ sym (behind-passed (message_verdict Pcreq s) (by (carried a.profile.now a.ingress.0 s)) is.verdict))
    t.ensures
