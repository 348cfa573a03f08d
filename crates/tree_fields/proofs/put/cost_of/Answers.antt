-- `tree_fields::put::cost_of` meets its contract, by the one test.
use mathlib.Core.Path.{sym, ap}
use Rattle.laws.specs.Reach.{Reach}
use Rattle.tree_reaches.proofs.Codes.{reach_none, reach_some}
use Rattle.tree_fields.proofs.put.cost_of.Goals as goal

pub returns-then-reach-eq-UNREACHABLE : goal.returns-then-reach-eq-UNREACHABLE
returns-then-reach-eq-UNREACHABLE c = sym (ap (λ (x : Reach). x.cost) (reach_none c.args.reach c.if-reach-eq-UNREACHABLE.true))

pub returns : goal.returns
returns c = sym (ap (λ (x : Reach). x.cost) (reach_some c.args.reach c.if-reach-eq-UNREACHABLE.false))
