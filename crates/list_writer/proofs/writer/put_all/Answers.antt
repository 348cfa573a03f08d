-- `list_writer::writer::put_all` meets its contract. The loop's invariant: were what is left from place i on put now, the buffer would be the one asked for; it has room
-- for that, and the EXRS of place i start behind those of the domains before.
use Prim.Native.Nat.{◌≤◌, ◌+◌}
use mathlib.Core.Path.{refl, sym, subst, ◌∙◌}
use native.Mathlib.Omega.{arith}
use borrow.Author.Rules.{rules}
use lib.ListN.{length, get_or}
use Rattle.model.specs.Lists.{sum}
use Rattle.model.specs.WrittenList.{written}
use Rattle.laws.proofs.WrittenSizes.{exrs-inside}
use Rattle.list_writer.specs.Writing.{AreaRight}
use Rattle.list_writer.proofs.Stretches.{bytes-further}
use Rattle.list_writer.proofs.Steps.{fit, inside, area-right, turn_room, turn, turn_long, nothing_left, from_start, none_placed}
use Rattle.list_writer.proofs.writer.put_all.Goals as goal
use Rattle.list_writer.proofs.writer.put_all.Goals.{In-loop-i}

-- where the EXRS of the domain at hand end
stretch : (c : In-loop-i) → c.loop-i.from + get_or c.args.lent.counts.now c.loop-i.i 0 ≤ length c.args.lent.exrs.now
stretch c =
    let t = fit c.requires.0 in
    let m = t.as_many_counts in
    omega (arith, c.loop-i.invariant.0, exrs-inside c.args.lent.counts.now c.args.lent.exrs.now t.all_bytes c.loop-i.i (omega (arith, c.loop-i-test.true)))

pub bounds-lent-i-in-loop-i : goal.bounds-lent-i-in-loop-i
bounds-lent-i-in-loop-i c =
    let t = fit c.requires.0 in
    omega (arith, t.as_many_marks, t.as_many_nodes, t.as_many_counts)

pub bounds-lent-i-in-loop-i-2 : goal.bounds-lent-i-in-loop-i-2
bounds-lent-i-in-loop-i-2 c =
    let t = fit c.requires.0 in
    omega (arith, t.as_many_marks, t.as_many_nodes, t.as_many_counts)

pub bounds-lent-i-in-loop-i-3 : goal.bounds-lent-i-in-loop-i-3
bounds-lent-i-in-loop-i-3 c =
    let t = fit c.requires.0 in
    omega (arith, t.as_many_marks, t.as_many_nodes, t.as_many_counts)

pub offset_bounds-lent-i-in-loop-i : goal.offset_bounds-lent-i-in-loop-i
offset_bounds-lent-i-in-loop-i c =
    let t = fit c.requires.0 in
    omega (arith, t.as_many_marks, t.as_many_nodes, t.as_many_counts)

pub offset_bounds-lent-i-in-loop-i-2 : goal.offset_bounds-lent-i-in-loop-i-2
offset_bounds-lent-i-in-loop-i-2 c =
    let t = fit c.requires.0 in
    omega (arith, t.as_many_marks, t.as_many_nodes, t.as_many_counts)

pub loop-i-init : goal.loop-i-init
unfolding written sum
loop-i-init c = (refl, refl, omega arith, from_start _ _)

pub domain_at-d-requires : goal.domain_at-d-requires
domain_at-d-requires c = inside c.requires.0 c.loop-i.i c.loop-i-test.true

pub overflow_add-to : goal.overflow_add-to
overflow_add-to c = let end = stretch (goal.at.overflow_add-to c).In-loop-i in omega arith

pub slice_bounds-put_stop-end : goal.slice_bounds-put_stop-end
slice_bounds-put_stop-end c = let end = stretch (goal.at.slice_bounds-put_stop-end c).In-loop-i in omega arith

pub put_stop-at-requires : goal.put_stop-at-requires
put_stop-at-requires c =
    let l = c.loop-i in
    let h = c.loop-i-test.true in
    (turn_room c.requires.0 l.i h l.before _ c.same_system-again.result c.domain_at-d.result c.domain_at-d.ensures c.same_system-again.ensures c.pin_of.ensures l.from _ l.invariant.0 refl l.at l.out (omega (arith, l.invariant.2, l.invariant.1, c.requires.1)), subst AreaRight (sym c.domain_at-d.ensures) (area-right c.requires.0 l.i h))

pub loop-i-preserved : goal.loop-i-preserved
loop-i-preserved c =
    let a = c.args in
    let l = c.loop-i in
    let h = c.loop-i-test.true in
    let put = c.put_stop-at.ensures in
    let n = (fit c.requires.0).as_many_counts in
    let next = bytes-further a.lent.counts.now l.i (omega arith) in (
      omega (arith, l.invariant.0),
      search rules,
      turn_long c.requires.0 l.i h l.before _ c.same_system-again.result c.domain_at-d.result c.domain_at-d.ensures c.same_system-again.ensures c.pin_of.ensures l.from _ l.invariant.0 refl l.at _ l.out _ put ∙ l.invariant.2,
      turn c.requires.0 l.i h l.before _ c.same_system-again.result c.domain_at-d.result c.domain_at-d.ensures c.same_system-again.ensures c.pin_of.ensures l.from _ l.invariant.0 refl l.at _ l.out _ (omega (arith, l.invariant.2, l.invariant.1, c.requires.1)) put ∙ l.invariant.3,
    )

pub returns : goal.returns
returns c =
    let a = c.args in
    let l = c.loop-i in
    let none = nothing_left a.profile.now a.lent.indexes.now a.lent.marks.now a.lent.nodes.now a.lent.counts.now a.lent.exrs.now l.i l.before (omega arith) in
    sym (none_placed _ l.out l.at none) ∙ l.invariant.3
