-- `list_form::known` meets its contract, by the list's kind and whether the type is that of an EXRS.
use mathlib.Core.Path.{sym, ap, ◌∙◌}
use mathlib.Core.Bool.{not}
use Rattle.model.specs.declared.ListKind.{ListKind}
use Rattle.model.specs.declared.ListKind.TheVariants.{Exclude}
use Rattle.model.specs.Subobject.{known}
use Rattle.list_subobject.specs.declared.types.SubobjectType.{SubobjectType}
use Rattle.list_subobject.specs.Types.{number_of}
use Rattle.list_form.proofs.Heads.{included, excluded, excluded_exrs}
use Rattle.list_form.proofs.known.Goals as goal
use Rattle.list_form.proofs.known.Goals.{in-Exrs, in_default}

pub returns-in-Include : goal.returns-in-Include
returns-in-Include c = let a = c.args in included a.t ∙ sym (ap (λ (k : ListKind). known k (number_of a.t)) c.in-Include.is)

pub returns-after-matches : goal.returns-after-matches
returns-after-matches c =
    let a = c.args in
    let kind = ap (λ (k : ListKind). known k (number_of a.t)) c.in-Exclude.is in
    elim c.match-matches.branch [
      | in-Exrs w ↦ ap not w.matches-is ∙ sym (kind ∙ ap (λ (t : SubobjectType). known Exclude (number_of t)) w.in-Exrs.is ∙ excluded_exrs)
      | in_default w ↦ ap not w.matches-is ∙ excluded a.t w.in_default.not-Exrs ∙ sym kind
    ]
