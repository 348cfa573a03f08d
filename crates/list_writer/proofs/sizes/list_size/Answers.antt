-- `list_writer::sizes::list_size` meets its contract. The loop's invariant: the size so far and what is left from place i on are the written list's; a domain takes at
-- most 36 bytes beside its EXRS.
use Prim.Native.Nat.{◌≤◌, ◌+◌}
use mathlib.Core.Path.{sym, ap, subst}
use native.Mathlib.Omega.{arith}
use lib.ListN.{length, get_or}
use Rattle.model.specs.Lists.{sum}
use Rattle.model.specs.WrittenList.{written}
use Rattle.laws.proofs.Stops.{bytes_before, bytes_most}
use Rattle.laws.proofs.WrittenSizes.{exrs-inside}
use Rattle.list_writer.specs.Writing.{AreaRight}
use Rattle.list_writer.proofs.Stretches.{bytes-further}
use Rattle.list_writer.proofs.Steps.{fit, inside, area-right, left_long, nothing_left}
use Rattle.list_writer.proofs.sizes.list_size.Goals as goal
use Rattle.list_writer.proofs.sizes.list_size.Goals.{In-loop-i}

-- where the EXRS of the domain at hand end
stretch : (c : In-loop-i) → bytes_before c.args.lent.counts.now c.loop-i.i + get_or c.args.lent.counts.now c.loop-i.i 0 ≤ length c.args.lent.exrs.now
stretch c =
    let t = fit c.requires.0 in
    let m = t.as_many_counts in
    exrs-inside c.args.lent.counts.now c.args.lent.exrs.now t.all_bytes c.loop-i.i (omega (arith, c.loop-i-test.true))

pub bounds-lent-i-in-loop-i : goal.bounds-lent-i-in-loop-i
bounds-lent-i-in-loop-i c =
    let t = fit c.requires.0 in
    omega (arith, t.as_many_marks, t.as_many_nodes, t.as_many_counts)

pub bounds-lent-i-in-loop-i-2 : goal.bounds-lent-i-in-loop-i-2
bounds-lent-i-in-loop-i-2 c =
    let t = fit c.requires.0 in
    omega (arith, t.as_many_marks, t.as_many_nodes, t.as_many_counts)

pub bounds-lent-i-in-loop-i-3 : goal.bounds-lent-i-in-loop-i-3
bounds-lent-i-in-loop-i-3 c =
    let t = fit c.requires.0 in
    omega (arith, t.as_many_marks, t.as_many_nodes, t.as_many_counts)

pub offset_bounds-lent-i-in-loop-i : goal.offset_bounds-lent-i-in-loop-i
offset_bounds-lent-i-in-loop-i c =
    let t = fit c.requires.0 in
    omega (arith, t.as_many_marks, t.as_many_nodes, t.as_many_counts)

pub offset_bounds-lent-i-in-loop-i-2 : goal.offset_bounds-lent-i-in-loop-i-2
offset_bounds-lent-i-in-loop-i-2 c =
    let t = fit c.requires.0 in
    omega (arith, t.as_many_marks, t.as_many_nodes, t.as_many_counts)

pub loop-i-init : goal.loop-i-init
unfolding written sum
loop-i-init c = (omega arith, omega arith)

pub domain_at-d-requires : goal.domain_at-d-requires
domain_at-d-requires c = inside c.requires.0 c.loop-i.i c.loop-i-test.true

pub named_size-size-requires : goal.named_size-size-requires
named_size-size-requires c = subst AreaRight (sym c.domain_at-d.ensures) (area-right c.requires.0 c.loop-i.i c.loop-i-test.true)

pub overflow_add-size : goal.overflow_add-size
overflow_add-size c =
    let end = stretch (goal.at.overflow_add-size c).In-loop-i in
    omega (arith, c.requires.0.most, c.requires.1, c.loop-i.invariant.0, c.named_size-size.ensures.0)

pub overflow_add-size-in-loop-i : goal.overflow_add-size-in-loop-i
overflow_add-size-in-loop-i c =
    let end = stretch (goal.at.overflow_add-size-in-loop-i c).In-loop-i in
    omega (arith, c.requires.0.most, c.requires.1, c.loop-i.invariant.0, c.named_size-size.ensures.0)

pub loop-i-preserved : goal.loop-i-preserved
loop-i-preserved c =
    let a = c.args in
    let i = c.loop-i.i in
    let next = bytes-further a.lent.counts.now i (omega (arith, (fit c.requires.0).as_many_counts)) in
    let long = left_long c.requires.0 i c.loop-i-test.true c.loop-i.before _ c.same_system-again.result c.domain_at-d.result c.domain_at-d.ensures c.same_system-again.ensures c.pin_of.ensures in
    (omega (arith, c.loop-i.invariant.0, c.named_size-size.ensures.0), omega (arith, c.loop-i.invariant.1, c.named_size-size.ensures.1))

pub returns : goal.returns
returns c =
    let a = c.args in
    let l = c.loop-i in
    let all = ap length (nothing_left a.profile.now a.lent.indexes.now a.lent.marks.now a.lent.nodes.now a.lent.counts.now a.lent.exrs.now l.i l.before (omega arith)) in
    let bytes = (fit c.requires.0).all_bytes in
    (omega (arith, c.requires.0.most, c.requires.1, bytes_most a.lent.counts.now l.i), omega arith)
