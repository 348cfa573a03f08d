-- `pcep_ero::right_until` meets its contract. The loop's invariant: what is left decides. The measure is what is left.
use mathlib.Core.Path.{refl, sym, ◌∙◌}
use native.Mathlib.Omega.{arith}
use Rattle.pcep_ero.proofs.Addresses.{eight, verdict_next}
use Rattle.pcep_ero.proofs.right_until.Goals as goal

pub loop-at-init : goal.loop-at-init
loop-at-init c = record { reached = omega arith; decides = refl }

pub overflow_sub-body : goal.overflow_sub-body
overflow_sub-body c = c.loop-at.invariant.reached

pub step_right-requires : goal.step_right-requires
step_right-requires c = omega (arith, c.loop-at-test.true, c.loop-at.invariant.reached)

pub returns-else-step_right : goal.returns-else-step_right
returns-else-step_right c = c.loop-at.invariant

pub overflow_add-at : goal.overflow_add-at
overflow_add-at c = record { fits = omega (arith, c.loop-at.invariant.reached, c.requires) }

pub loop-at-smaller : goal.loop-at-smaller
loop-at-smaller c = omega (arith, c.loop-at-test.true, c.loop-at.invariant.reached)

pub loop-at-preserved : goal.loop-at-preserved
loop-at-preserved c =
    let s = c.args.body.now in
    let l = c.loop-at in
    let e = c.step_right.ensures c.if-step_right.true in
    record {
      reached = (eight s l.at e).whole;
      decides = sym (verdict_next s l.at (omega (arith, c.loop-at-test.true, l.invariant.reached)) e) ∙ l.invariant.decides;
    }

pub returns : goal.returns
returns c = c.loop-at.invariant
