-- `profile_reserved::misplaced_by` meets its contract: the test of the class picks the case.
use borrow.Author.Tests.{eq-eqb, ne_eqb}
use Rattle.profile_reserved.proofs.misplaced_by.Goals as goal

pub returns-then-class-eq0 : goal.returns-then-class-eq0
returns-then-class-eq0 c = rw (eq-eqb c.args.class 0 c.if-class-eq0.true)

pub returns : goal.returns
returns c = rw (ne_eqb c.args.class 0 c.if-class-eq0.false)
