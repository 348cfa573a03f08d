-- `list_exclusion::some_desired` meets its contract: the test that is made is the X bit.
use borrow.Author.Rules.{rules}
use Rattle.model.specs.Exclusion.{some_desired}
use Rattle.list_exclusion.proofs.Exclusions.{is_desired}
use Rattle.list_exclusion.proofs.some_desired.Goals as goal

pub returns : goal.returns
unfolding some_desired
returns c = c.some_passes.ensures is_desired (λ item b inside returned. search rules)
