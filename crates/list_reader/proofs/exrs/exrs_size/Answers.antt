-- `list_reader::exrs::exrs_size` meets its contract. The loop's invariant: the size is that of the EXRS passed. The measure is what is left of the stretch.
use Prim.Native.Nat.{ℕ}
use mathlib.Core.Path.{◌≡◌, sym, ap, ◌∙◌}
use native.Mathlib.Omega.{arith}
use lib.ListN.{length}
use Rattle.laws.specs.Exrs.{exrs_in}
use Rattle.laws.proofs.ExrsSizes.{none_passed, no_exrs, exrs-few}
use Rattle.list_reader.proofs.Stretches.{there, readable_there, whole-there, passed_next, size_next, size_fits}
use Rattle.list_reader.proofs.exrs.exrs_size.Goals as goal

pub loop-at-init : goal.loop-at-init
loop-at-init c =
    let a = c.args in
    (none_passed a.list.now a.from a.to c.requires, sym (ap length (no_exrs a.list.now a.from a.from (omega arith))))

pub next_after-next-requires : goal.next_after-next-requires
next_after-next-requires c =
    let a = c.args in
    readable_there a.list.now a.from a.to c.loop-at.at c.loop-at.invariant.0 c.loop-at-test.true

pub bytes_at-size-requires : goal.bytes_at-size-requires
bytes_at-size-requires c =
    let a = c.args in
    let l = c.loop-at in
    whole-there a.list.now a.from a.to l.at l.invariant.0 c.loop-at-test.true c.next_after-next.result c.next_after-next.ensures

-- the size with the subobject at hand is at most that of the stretch
pub overflow_add-size : goal.overflow_add-size
overflow_add-size c =
    let a = c.args in
    let l = c.loop-at in
    let fits = size_fits a.list.now a.from a.to l.at l.invariant.0 c.loop-at-test.true c.next_after-next.result c.next_after-next.ensures c.bytes_at-size.result c.bytes_at-size.ensures in
    omega (arith, exrs-few a.list.now a.from a.to c.requires)

pub loop-at-smaller : goal.loop-at-smaller
loop-at-smaller c =
    let a = c.args in
    let l = c.loop-at in
    let r = there a.list.now a.from a.to l.at l.invariant.0 c.loop-at-test.true in
    let n = c.next_after-next.ensures in
    omega (arith, r.long, r.whole)

pub loop-at-preserved : goal.loop-at-preserved
loop-at-preserved c =
    let a = c.args in
    let l = c.loop-at in
    let test = c.loop-at-test.true in
    let n = c.next_after-next in (
      passed_next a.list.now a.from a.to l.at l.invariant.0 test n.result n.ensures,
      size_next a.list.now a.from a.to l.at l.invariant.0 test n.result n.ensures c.bytes_at-size.result c.bytes_at-size.ensures l.size l.invariant.1,
    )

pub returns : goal.returns
returns c =
    let a = c.args in
    let l = c.loop-at in
    let end : l.at ≡ a.to = omega (arith, c.loop-at-test.false, l.invariant.0.left.order) in
    let all : l.size ≡ length (exrs_in a.list.now a.from a.to) = l.invariant.1 ∙ ap (λ (n : ℕ). length (exrs_in a.list.now a.from n)) end in
    (all, omega (arith, exrs-few a.list.now a.from a.to c.requires))
