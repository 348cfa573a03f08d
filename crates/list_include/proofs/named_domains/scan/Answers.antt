-- `list_include::named_domains::scan` meets its contract. The loop's invariant: the domains below i are scanned, for whatever the test says.
use mathlib.Core.Path.{sym, ◌∙◌}
use native.Mathlib.Omega.{arith}
use Rattle.list_include.proofs.Hits.{hits_none, next-hit, next_miss, hits_found}
use Rattle.list_include.proofs.named_domains.scan.Goals as goal
use Rattle.list_include.proofs.named_domains.scan.Goals.{then-test, else-test}

pub loop-i-init : goal.loop-i-init
loop-i-init g c = (omega arith, omega arith, λ p is. hits_none p c.args.n)

pub loop-i-preserved : goal.loop-i-preserved
loop-i-preserved g c =
    let l = c.loop-i in
    let n = c.args.n in
    let below = c.loop-i-test.true in
    elim c.if-test.branch [
      | then-test w ↦ (omega arith, omega arith, λ p is. next-hit p n l.i l.hits l.last c.if-test.hits c.if-test.last (l.invariant.2 p is) below (sym (is l.i c.test.result below c.test.ensures) ∙ w.if-test.true) w.hits-is w.last-is)
      | else-test w ↦ (omega arith, omega arith, λ p is. next_miss p n l.i l.hits l.last c.if-test.hits c.if-test.last (l.invariant.2 p is) below (sym (is l.i c.test.result below c.test.ensures) ∙ w.if-test.false) w.hits-is w.last-is)
    ]

pub returns : goal.returns
returns g c =
    let l = c.loop-i in
    λ p is. c.told.ensures ∙ hits_found p c.args.n l.i l.hits l.last (omega arith) (l.invariant.2 p is)
