-- `list_exclusion::place::some_desired_there` meets its contract: the exclude list has one, or the EXRS of the stretch decide.
use mathlib.Core.Path.{◌≡◌, sym, ◌∙◌}
use borrow.Author.Rules.{rules}
use Rattle.model.specs.Subobject.{subobjects}
use Rattle.model.specs.Exclusion.{some_desired}
use Rattle.laws.specs.Exrs.{carried_in}
use Rattle.list_exclusion.proofs.Exclusions.{is_desired, desired_passes}
use Rattle.list_exclusion.proofs.Places.{desired_either, by_first, by_second}
use Rattle.list_exclusion.proofs.place.some_desired_there.Goals as goal

pub returns-then-some_desired : goal.returns-then-some_desired
returns-then-some_desired c = c.if-some_desired.true ∙ by_first _ _ (desired_either _ _) (sym c.some_desired.ensures ∙ c.if-some_desired.true)

pub returns-else-some_desired : goal.returns-else-some_desired
returns-else-some_desired c =
    let a = c.args in
    c.exrs_have.ensures is_desired
    (λ list b right returned.
    let out : b ≡ some_desired (subobjects list.now) = search rules in
    out ∙ sym (desired_passes (subobjects list.now)))
    ∙ desired_passes (carried_in a.include.now a.from a.to)
    ∙ by_second _ _ (desired_either _ _) (sym c.some_desired.ensures ∙ c.if-some_desired.false)
