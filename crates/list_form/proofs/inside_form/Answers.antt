-- `list_form::inside_form` meets its contract: what is checked is the form of an exclude list's subobjects.
use borrow.Author.Rules.{rules}
use Rattle.model.specs.declared.ListKind.TheVariants.{Exclude}
use Rattle.model.specs.Subobject.{subobject_verdict}
use Rattle.list_form.proofs.inside_form.Goals as goal

pub each-requires-clause-checks : goal.each-requires-clause-checks
unfolding subobject_verdict
each-requires-clause-checks c = (Exclude, λ at verdict before returned. search rules)

pub returns : goal.returns
unfolding subobject_verdict
returns c = c.each.ensures Exclude (λ at verdict before returned. search rules)
