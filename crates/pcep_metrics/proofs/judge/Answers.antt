-- `pcep_metrics::judge` meets its contract. The loop's invariant is `Judging`; the measure is what is left of the message.
use Prim.Native.Nat.{◌+◌, ◌≤◌}
use native.Mathlib.Omega.{arith}
use lib.ListN.{length}
use Rattle.pcep_metrics.proofs.Judging.{at_start, judging_starts, judging_ends, whole, behind, judging_goes_on}
use Rattle.pcep_metrics.proofs.judge.Goals as goal
use Rattle.pcep_metrics.proofs.judge.Goals.{In-loop-at}

-- the METRIC at hand lies inside the message, which is no longer than its header can say
inside : (c : In-loop-at) → c.loop-at.at + 12 ≤ length c.args.message.now
inside c =
    let l = c.loop-at in
    whole c.args.message.now c.requires l.at l.scan (l.invariant c.requires) c.loop-at-test.true

pub next_metric-at-requires : goal.next_metric-at-requires
next_metric-at-requires c = at_start c.args.message.now c.requires

pub loop-at-init : goal.loop-at-init
loop-at-init c = λ p. judging_starts c.args.message.now p c.next_metric-at.result c.next_metric-at.ensures

pub overflow_add-scan : goal.overflow_add-scan
overflow_add-scan c =
    let j = c.loop-at.invariant c.requires in
    record { fits = omega (arith, j.few, j.inside, c.requires.short) }

pub overflow_add-at : goal.overflow_add-at
overflow_add-at c = record { fits = omega (arith, inside (goal.at.overflow_add-at c).In-loop-at, c.requires.short) }

pub bounds-message-at : goal.bounds-message-at
bounds-message-at c = omega (arith, inside (goal.at.bounds-message-at c).In-loop-at)

pub overflow_add-at-in-loop-at : goal.overflow_add-at-in-loop-at
overflow_add-at-in-loop-at c = record { fits = omega (arith, inside (goal.at.overflow_add-at-in-loop-at c).In-loop-at, c.requires.short) }

pub u32_at-requires : goal.u32_at-requires
u32_at-requires c = omega (arith, inside (goal.at.u32_at-requires c).In-loop-at)

pub overflow_add-at-in-loop-at-2 : goal.overflow_add-at-in-loop-at-2
overflow_add-at-in-loop-at-2 c = record { fits = omega (arith, inside (goal.at.overflow_add-at-in-loop-at-2 c).In-loop-at, c.requires.short) }

pub next_metric-at-requires-in-loop-at : goal.next_metric-at-requires-in-loop-at
next_metric-at-requires-in-loop-at c =
    let l = c.loop-at in
    behind c.args.message.now c.requires l.at l.scan (l.invariant c.requires) c.loop-at-test.true

pub loop-at-smaller : goal.loop-at-smaller
loop-at-smaller c =
    let i = inside (goal.at.loop-at-smaller c).In-loop-at in
    let n = c.next_metric-at-in-loop-at.ensures.none_between in
    omega (arith, n.further, n.inside)

pub loop-at-preserved : goal.loop-at-preserved
loop-at-preserved c =
    let l = c.loop-at in
    rw (c.noted.ensures, c.noted-in-loop-at.ensures, c.u32_at.ensures)
    (λ p. judging_goes_on c.args.message.now p l.at l.scan (l.invariant p) c.loop-at-test.true c.next_metric-at-in-loop-at.result c.next_metric-at-in-loop-at.ensures)

pub returns : goal.returns
returns c =
    let l = c.loop-at in
    judging_ends c.args.message.now c.requires l.at l.scan (l.invariant c.requires) c.loop-at-test.false
