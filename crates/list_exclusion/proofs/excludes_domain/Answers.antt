-- `list_exclusion::excludes_domain` meets its contract: the test that is made is whether an exclusion bars the domain.
use mathlib.Core.Path.{◌∙◌}
use borrow.Author.Rules.{rules}
use Rattle.model.specs.Subobject.{subobjects}
use Rattle.list_exclusion.proofs.Exclusions.{bars_domain, domain_barred}
use Rattle.list_exclusion.proofs.excludes_domain.Goals as goal

pub returns : goal.returns
returns c =
    let a = c.args in
    c.some_passes.ensures (bars_domain a.round a.d) (λ item b inside returned. search rules) ∙ domain_barred a.round a.d (subobjects a.list.now)
