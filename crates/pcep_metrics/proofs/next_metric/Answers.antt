-- `pcep_metrics::next_metric` meets its contract. The loop's invariant: none is passed. The measure is what is left of the message.
use mathlib.Core.Path.{sym, ◌∙◌}
use native.Mathlib.Omega.{arith}
use Rattle.pcep_laws.proofs.Objects.{Right}
use Rattle.pcep_metrics.proofs.Between.{between_none, between_next, right_here}
use Rattle.pcep_metrics.proofs.next_metric.Goals as goal
use Rattle.pcep_metrics.proofs.next_metric.Goals.{In-loop-at}

-- the object at hand is right
right : (c : In-loop-at) → Right c.requires.passed.kind c.args.message.now c.loop-at.at
right c =
    right_here c.args.message.now c.args.from c.requires c.loop-at.at c.loop-at.invariant c.loop-at-test.true

pub loop-at-init : goal.loop-at-init
loop-at-init c = between_none c.args.message.now c.args.from c.requires.inside

pub is_metric-requires : goal.is_metric-requires
is_metric-requires c = (right (goal.at.is_metric-requires c).In-loop-at).head

pub returns-then-is_metric : goal.returns-then-is_metric
returns-then-is_metric c = record { none_between = c.loop-at.invariant; metric = λ h. sym c.is_metric.ensures ∙ c.if-is_metric.true }

pub overflow_add-at : goal.overflow_add-at
overflow_add-at c = let r = right (goal.at.overflow_add-at c).In-loop-at in record { fits = omega (arith, r.head) }

pub u16_at-requires : goal.u16_at-requires
u16_at-requires c = let r = right (goal.at.u16_at-requires c).In-loop-at in omega (arith, r.head)

pub overflow_add-at-in-loop-at : goal.overflow_add-at-in-loop-at
overflow_add-at-in-loop-at c =
    let r = right (goal.at.overflow_add-at-in-loop-at c).In-loop-at in
    let n = c.u16_at.ensures in
    let short = c.requires.passed.short in
    record { fits = omega (arith, r.inside, short) }

pub loop-at-smaller : goal.loop-at-smaller
loop-at-smaller c =
    let r = right (goal.at.loop-at-smaller c).In-loop-at in
    let n = c.u16_at.ensures in
    omega (arith, r.inside, r.long)

pub loop-at-preserved : goal.loop-at-preserved
loop-at-preserved c =
    let l = c.loop-at in
    rw c.u16_at.ensures
    (between_next c.args.message.now c.args.from c.requires l.at l.invariant c.loop-at-test.true (sym c.is_metric.ensures ∙ c.if-is_metric.false))

pub returns : goal.returns
returns c = record { none_between = c.loop-at.invariant; metric = λ h. absurd (omega (arith, c.loop-at-test.false)) }
