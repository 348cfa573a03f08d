-- `list_exclusion::place::excludes_domain_there` meets its contract: the exclude list has one, or the EXRS of the stretch decide.
use mathlib.Core.Path.{◌≡◌, sym, ◌∙◌}
use borrow.Author.Rules.{rules}
use Rattle.model.specs.Subobject.{subobjects}
use Rattle.model.specs.Exclusion.{in_force, excluded_domain}
use Rattle.laws.specs.Exrs.{carried_in}
use Rattle.list_exclusion.proofs.Exclusions.{bars_domain, domain_barred}
use Rattle.list_exclusion.proofs.Places.{domain_either, by_first, by_second}
use Rattle.list_exclusion.proofs.place.excludes_domain_there.Goals as goal

pub returns-then-excludes_domain : goal.returns-then-excludes_domain
returns-then-excludes_domain c = c.if-excludes_domain.true ∙ by_first _ _ (domain_either _ _ _) (sym c.excludes_domain.ensures ∙ c.if-excludes_domain.true)

pub returns-else-excludes_domain : goal.returns-else-excludes_domain
returns-else-excludes_domain c =
    let a = c.args in
    c.exrs_have.ensures (bars_domain a.round a.d)
    (λ list b right returned.
    let out : b ≡ excluded_domain (in_force a.round (subobjects list.now)) a.d = search rules in
    out ∙ sym (domain_barred a.round a.d (subobjects list.now)))
    ∙ domain_barred a.round a.d (carried_in a.include.now a.from a.to)
    ∙ by_second _ _ (domain_either _ _ _) (sym c.excludes_domain.ensures ∙ c.if-excludes_domain.false)
