-- `list_include::area_at` meets its contract: the type at the offset tells.
use mathlib.Core.Path.{◌∙◌}
use borrow.Author.Tests.{eq-eqb}
use Rattle.list_include.proofs.Includes.{area_6, area_or_not, area-end}
use Rattle.list_include.proofs.area_at.Goals as goal

pub returns-then-list-at : goal.returns-then-list-at
returns-then-list-at c = area-end c.args.list.now c.args.at c.if-list-at.true

pub returns-then-t : goal.returns-then-t
returns-then-t c = eq-eqb _ 6 c.if-t.true ∙ area_6 c.args.list.now c.args.at c.if-list-at.false c.if-t.true

pub returns-else-t : goal.returns-else-t
returns-else-t c = area_or_not c.args.list.now c.args.at c.if-list-at.false c.if-t.false
