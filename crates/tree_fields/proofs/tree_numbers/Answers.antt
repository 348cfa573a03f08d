-- `tree_fields::tree_numbers` meets its contract: on a refusal nothing is put into the buffers.
use mathlib.Core.Path.{◌≡◌, refl, sym, ap, subst, ap₂, ◌∙◌}
use Prim.Native.Nat.{min}
use borrow.Author.Rules.{rules}
use Rattle.std.specs.Prelude.{Result, Err}
use Rattle.model.specs.declared.BuiltTree.{BuiltTree}
use Rattle.model.specs.declared.Refusal.{Refusal}
use Rattle.model.specs.declared.TreeEntry.{TreeEntry}
use Rattle.model.specs.Calls.{build_tree, Outcome}
use Rattle.laws.proofs.Lists.{over_nothing}
use Rattle.buffers.specs.Capacity.{least4}
use Rattle.request.specs.CheckedRequest.{request_for}
use Rattle.tree_fields.specs.TreeResult.{TreeResultIs, TreeIn}
use Rattle.tree_fields.proofs.tree_numbers.Goals as goal

pub returns-in_err-solved : goal.returns-in_err-solved
returns-in_err-solved c =
    let a = c.args in
    let l = c.solve.new in
    let why = c.in_err-solved.field-0.0 in
    let req = request_for a.profile.now a.asked a.include.now a.exclude.now in
    let same : c.from_residual.result ≡ Err why = search rules in
    let refused =
    subst (TreeResultIs (build_tree req c.lesser-room.result) c.lesser-room.result l.levels.addresses l.reaches l.levels.starts) c.in_err-solved.was c.solve.ensures in
    subst (λ (r : Result BuiltTree Refusal). TreeIn (build_tree req (least4 a.level.now a.address.now a.reachable.now a.cost.now)) a.level.now a.address.now a.reachable.now a.cost.now r a.level.now a.address.now a.reachable.now a.cost.now) (sym same)
    (subst (λ (o : Outcome TreeEntry). TreeIn o a.level.now a.address.now a.reachable.now a.cost.now (Err why) a.level.now a.address.now a.reachable.now a.cost.now)
    (sym (ap (build_tree req) (sym (c.lesser-room.ensures ∙ ap₂ min c.lesser.ensures c.lesser-2.ensures)) ∙ refused))
    (record {
      numbers = refl;
      in_levels = sym (over_nothing a.level.now);
      in_addresses = sym (over_nothing a.address.now);
      in_marks = sym (over_nothing a.reachable.now);
      in_costs = sym (over_nothing a.cost.now);
    }))
