-- `list_form::form` meets its contract: what is checked is the form of the subobjects of a list of this kind.
use borrow.Author.Rules.{rules}
use Rattle.model.specs.Subobject.{form_verdict}
use Rattle.list_form.proofs.form.Goals as goal

pub returns : goal.returns
unfolding form_verdict
returns c = c.each.ensures c.args.kind (λ at verdict before returned. search rules)
