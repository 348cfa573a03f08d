-- `path_series::form::adds_up` meets its contract. The loop's invariant: the sizes passed and what is left of the whole make the whole.
use mathlib.Core.Path.{sym}
use native.Mathlib.Omega.{arith}
use borrow.Author.Tests.{ne_eqb}
use Rattle.model.specs.Lists.{sum}
use Rattle.path_series.proofs.Forms.{sum_here, sum_none, left_over}
use Rattle.path_series.proofs.form.adds_up.Goals as goal

pub returns-in_default : goal.returns-in_default
returns-in_default c =
    let l = c.loop-size in
    let s = c.args.sizes.now in
    let here = sum_here s l.size-index c.loop-size-test.true in
    let less = c.in_default.ensures in
    sym (ne_eqb (sum s) c.args.whole (λ e. less (omega (arith, l.invariant))))

pub loop-size-preserved : goal.loop-size-preserved
loop-size-preserved c =
    let l = c.loop-size in
    let here = sum_here c.args.sizes.now l.size-index c.loop-size-test.true in
    let some = c.in-Some.ensures in
    omega (arith, l.invariant)

pub returns : goal.returns
returns c =
    let l = c.loop-size in
    let s = c.args.sizes.now in
    let none = sum_none s l.size-index c.loop-size-test.false in
    left_over (sum s) l.left c.args.whole (omega (arith, l.invariant))
