-- `tree_reaches::relax` meets its contract: each return is one case of the running minimum (`Codes`).
use native.Mathlib.Omega.{arith}
use borrow.Author.Rules.{rules}
use Rattle.tree_reaches.proofs.Codes.{cost-fits, relax_none, relax_less, relax_more}
use Rattle.tree_reaches.proofs.relax.Goals as goal

pub returns-then-there-eq-UNREACHABLE : goal.returns-then-there-eq-UNREACHABLE
returns-then-there-eq-UNREACHABLE c = let a = c.args in relax_none a.best a.cost a.there c.if-there-eq-UNREACHABLE.true

pub overflow_add-new : goal.overflow_add-new
overflow_add-new c =
    let a = c.args in
    let h = cost-fits a.cost a.there c.requires.0 c.requires.1 c.if-there-eq-UNREACHABLE.false (search rules) in
    omega arith

pub returns-then-new-best : goal.returns-then-new-best
returns-then-new-best c =
    let a = c.args in
    let some = c.if-there-eq-UNREACHABLE.false in
    relax_less a.best a.cost a.there some (cost-fits a.cost a.there c.requires.0 c.requires.1 some (search rules)) c.if-new-best.true

pub returns : goal.returns
returns c =
    let a = c.args in
    let some = c.if-there-eq-UNREACHABLE.false in
    relax_more a.best a.cost a.there some (cost-fits a.cost a.there c.requires.0 c.requires.1 some (search rules)) (omega arith)
