-- `path_step::on_shortest` meets its contract: nothing is left behind the head, or the two sums of costs are compared.
use mathlib.Core.Path.{sym, ap}
use native.Mathlib.Omega.{arith}
use borrow.Author.Rules.{rules}
use Rattle.laws.specs.Descent.{on_shortest}
use Rattle.tree_reaches.specs.Reaches.{reach_of}
use Rattle.tree_reaches.proofs.Codes.{reach_none, reach_some, cost-fits}
use Rattle.path_step.proofs.on_shortest.Goals as goal

pub returns-then-there-eq-UNREACHABLE : goal.returns-then-there-eq-UNREACHABLE
returns-then-there-eq-UNREACHABLE c =
    let a = c.args in
    sym (ap (on_shortest (reach_of a.here) a.h) (reach_none a.there c.if-there-eq-UNREACHABLE.true))

pub overflow_add-result : goal.overflow_add-result
overflow_add-result c =
    let start = c in
    let a = c.args in
    let k = cost-fits a.h.cost a.there c.requires.0 c.requires.1 c.if-there-eq-UNREACHABLE.false (search rules) in
    omega arith

pub returns : goal.returns
returns c =
    let start = c in
    let a = c.args in
    sym
    (λ j.
    on_shortest (reach_some a.here (λ e. let k = c.requires.2 in omega arith) j) a.h (reach_some a.there c.if-there-eq-UNREACHABLE.false j))
