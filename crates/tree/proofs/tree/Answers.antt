-- `tree::tree` meets its contract: on a refusal the lent slice keeps what it held.
use mathlib.Core.Path.{◌≡◌, refl, sym, subst}
use borrow.Author.Rules.{rules}
use lib.ListN.{length}
use Rattle.std.specs.Prelude.{Result, Err}
use Rattle.model.specs.declared.BuiltTree.{BuiltTree}
use Rattle.model.specs.declared.Refusal.{Refusal}
use Rattle.model.specs.declared.TreeEntry.{TreeEntry}
use Rattle.model.specs.Calls.{build_tree, Outcome}
use Rattle.laws.proofs.Lists.{over_nothing}
use Rattle.request.specs.CheckedRequest.{request_of}
use Rattle.tree.specs.Trees.{TableResultIs, TreeLent}
use Rattle.tree.proofs.tree.Goals as goal

pub returns-in_err-made : goal.returns-in_err-made
returns-in_err-made c =
    let a = c.args in
    let old = a.entries.now in
    let outcome = build_tree (request_of a.profile.now a.ingress.0 a.source.0 a.destination.0 a.include.now a.exclude.now a.limits) (length old) in
    let why = c.in_err-made.field-0.0 in
    let same : c.from_residual.result ≡ Err why = search rules in
    let refused = subst (TableResultIs outcome (length old)) c.in_err-made.was c.build.ensures in
    subst (λ (r : Result BuiltTree Refusal). TreeLent outcome old r old) (sym same)
    (subst (λ (o : Outcome TreeEntry). TreeLent o old (Err why) old) (sym refused) (record { numbers = refl; in_entries = sym (over_nothing old) }))
