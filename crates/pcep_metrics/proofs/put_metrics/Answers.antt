-- `pcep_metrics::put_metrics` meets its contract. The loop's invariant: the METRICs passed are written, field by field, and the others are left (`Putting`).
use Prim.Native.Nat.{ℕ, ◌+◌, ◌≤◌, ◌<◌}
use mathlib.Core.Path.{sym, ◌∙◌}
use native.Mathlib.Omega.{arith}
use lib.ListN.{length}
use Rattle.pcep_model.specs.Metrics.{Metric, metrics}
use Rattle.pcep_metrics.specs.Along.{kind_of, flags_of, value_of}
use Rattle.pcep_metrics.proofs.Putting.{written_none, written_next, putting_starts, standing, whole, is-there, putting_goes_on}
use Rattle.pcep_metrics.proofs.put_metrics.Goals as goal
use Rattle.pcep_metrics.proofs.put_metrics.Goals.{After-next_metric-at, In-loop-i}

-- some METRIC is left
few : (c : In-loop-i) → c.loop-i.i < length (metrics c.args.message.now)
few c = let e = c.requires.1 in omega (arith, c.loop-i-test.true)

-- the METRIC met lies inside the message
inside : (c : After-next_metric-at) → c.next_metric-at.result + 12 ≤ length c.args.message.now
inside c =
    let l = c.loop-i in
    whole c.args.message.now c.requires.0 l.at l.i (l.invariant.0 c.requires.0) (few (goal.at.After-next_metric-at c).In-loop-i) c.next_metric-at.result c.next_metric-at.ensures

pub loop-i-init : goal.loop-i-init
loop-i-init c =
    let a = c.args in
    (λ p. putting_starts a.message.now p, written_none kind_of (metrics a.message.now) a.kinds.now, written_none flags_of (metrics a.message.now) a.flags.now, written_none value_of (metrics a.message.now) a.values.now)

pub next_metric-at-requires : goal.next_metric-at-requires
next_metric-at-requires c =
    let l = c.loop-i in
    standing c.args.message.now c.requires.0 l.at l.i (l.invariant.0 c.requires.0)

pub bounds-message-at : goal.bounds-message-at
bounds-message-at c = omega (arith, inside (goal.at.bounds-message-at c).After-next_metric-at)

pub bounds-message-at-in-loop-i : goal.bounds-message-at-in-loop-i
bounds-message-at-in-loop-i c = omega (arith, inside (goal.at.bounds-message-at-in-loop-i c).After-next_metric-at)

pub u32_at-requires : goal.u32_at-requires
u32_at-requires c = omega (arith, inside (goal.at.u32_at-requires c).After-next_metric-at)

pub loop-i-preserved : goal.loop-i-preserved
loop-i-preserved c =
    let s = c.args.message.now in
    let l = c.loop-i in
    let m = c.next_metric-at in
    let taken = c.loop-i-test.true in
    let some = few (goal.at.loop-i-preserved c).In-loop-i in
    let there : (f : Metric → ℕ) → _ = is-there s c.requires.0 l.at l.i (l.invariant.0 c.requires.0) some m.result m.ensures in (
      λ p. putting_goes_on s p l.at l.i (l.invariant.0 p) some m.result m.ensures,
      written_next kind_of (metrics s) c.args.kinds.now l.i _ l.kinds some (omega (arith, taken, c.requires.2)) (sym (there kind_of)) l.invariant.1,
      written_next flags_of (metrics s) c.args.flags.now l.i _ l.flags some (omega (arith, taken, c.requires.3)) (sym (there flags_of)) l.invariant.2,
      written_next value_of (metrics s) c.args.values.now l.i _ l.values some (omega (arith, taken, c.requires.4)) (c.u32_at.ensures ∙ sym (there value_of)) l.invariant.3,
    )
