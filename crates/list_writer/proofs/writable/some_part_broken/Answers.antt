-- `list_writer::writable::some_part_broken` meets its contract. The loop's invariant: some domain's bytes from place i on are broken just when some of all are, and those
-- of place i start behind those before.
use Prim.Native.Nat.{◌+◌, ◌≤◌}
use mathlib.Core.Path.{refl, sym, ap, ◌∙◌}
use native.Mathlib.Omega.{arith}
use lib.ListN.{length, get_or}
use Rattle.model.specs.WrittenList.{whole_exrs}
use Rattle.model.specs.Lists.{sum}
use Rattle.laws.proofs.WrittenSizes.{exrs-inside}
use Rattle.list_writer.proofs.Stretches.{bytes-further, lent, lent_short, broken_here, broken_later, broken_start, none_broken}
use Rattle.list_writer.proofs.writable.some_part_broken.Goals as goal
use Rattle.list_writer.proofs.writable.some_part_broken.Goals.{In-loop-count}

-- where the bytes of the domain at hand end
stretch : (c : In-loop-count) → c.loop-count.from + get_or c.args.counts.now c.loop-count.count-index 0 ≤ length c.args.exrs.now
stretch c = omega (arith, c.loop-count.invariant.0, exrs-inside c.args.counts.now c.args.exrs.now c.requires.0 c.loop-count.count-index c.loop-count-test.true)

pub loop-count-init : goal.loop-count-init
unfolding sum
loop-count-init c = (refl, broken_start _ _)

pub overflow_add-to : goal.overflow_add-to
overflow_add-to c = let end = stretch (goal.at.overflow_add-to c).In-loop-count in omega arith

pub slice_bounds-whole_exrs-end : goal.slice_bounds-whole_exrs-end
slice_bounds-whole_exrs-end c = let end = stretch (goal.at.slice_bounds-whole_exrs-end c).In-loop-count in omega arith

pub whole_exrs-requires : goal.whole_exrs-requires
whole_exrs-requires c =
    let a = c.args in
    let short = lent_short a.counts.now a.exrs.now c.loop-count.count-index c.loop-count.from (c.loop-count.from + get_or a.counts.now c.loop-count.count-index 0) in
    omega (arith, c.requires.1)

pub returns-then-not-whole_exrs : goal.returns-then-not-whole_exrs
returns-then-not-whole_exrs c =
    let a = c.args in
    let l = c.loop-count in
    let own = lent a.counts.now a.exrs.now l.count-index l.from _ l.invariant.0 refl in
    sym (broken_here a.counts.now a.exrs.now l.count-index c.loop-count-test.true (ap whole_exrs own ∙ sym c.whole_exrs.ensures ∙ c.if-not-whole_exrs.true)) ∙ l.invariant.1

pub loop-count-preserved : goal.loop-count-preserved
loop-count-preserved c =
    let a = c.args in
    let l = c.loop-count in
    let next = bytes-further a.counts.now l.count-index c.loop-count-test.true in
    let own = lent a.counts.now a.exrs.now l.count-index l.from _ l.invariant.0 refl in
    (omega (arith, l.invariant.0), sym (broken_later a.counts.now a.exrs.now l.count-index c.loop-count-test.true (ap whole_exrs own ∙ sym c.whole_exrs.ensures ∙ c.if-not-whole_exrs.false)) ∙ l.invariant.1)

pub returns : goal.returns
returns c = sym (none_broken c.args.counts.now c.args.exrs.now c.loop-count.count-index (omega arith)) ∙ c.loop-count.invariant.1
