-- `tree_fields::put::mark_of` meets its contract, by the one test.
use mathlib.Core.Path.{sym, ap}
use Rattle.laws.specs.Reach.{Reach}
use Rattle.tree_reaches.proofs.Codes.{reach_none, reach_some}
use Rattle.tree_fields.specs.Fields.{mark_if}
use Rattle.tree_fields.proofs.put.mark_of.Goals as goal

pub returns-then-code-eq-UNREACHABLE : goal.returns-then-code-eq-UNREACHABLE
returns-then-code-eq-UNREACHABLE c = sym (ap (λ (x : Reach). mark_if x.reachable) (reach_none c.args.code c.if-code-eq-UNREACHABLE.true))

pub returns : goal.returns
returns c = sym (ap (λ (x : Reach). mark_if x.reachable) (reach_some c.args.code c.if-code-eq-UNREACHABLE.false))
