-- `list_reader::exrs::put_exrs` meets its contract. The loop's invariant: the EXRS passed are put. The measure is what is left of the stretch.
use Prim.Native.Nat.{ℕ, ◌-◌, ◌≤◌, ◌<◌}
use mathlib.Core.Path.{◌≡◌, refl, sym, subst}
use mathlib.Core.List.{List}
use native.Mathlib.Omega.{arith}
use borrow.Author.Rules.{rules}
use lib.ListN.{length, drop, length-drop}
use lib.Seq.{length-take-le}
use Rattle.model.specs.Subobject.{after_subobject}
use Rattle.laws.specs.Exrs.{exrs_in}
use Rattle.laws.proofs.ExrsSizes.{none_passed, no_exrs}
use Rattle.buffers.specs.Placed.{Put}
use Rattle.buffers.proofs.Places.{nothing_put}
use Rattle.list_reader.proofs.Stretches.{there, readable_there, whole-there, passed_next, size_fits, put_next}
use Rattle.list_reader.proofs.exrs.put_exrs.Goals as goal
use Rattle.list_reader.proofs.exrs.put_exrs.Goals.{After-next_after-next}

pub loop-o-init : goal.loop-o-init
loop-o-init c =
    let a = c.args in
    let out = a.out.now in (
      none_passed a.list.now a.from a.to c.requires.0,
      subst (λ (l : List ℕ). Put a.at l out out a.at) (sym (no_exrs a.list.now a.from a.from (omega arith))) (nothing_put out a.at),
      refl,
    )

pub next_after-next-requires : goal.next_after-next-requires
next_after-next-requires c =
    let a = c.args in
    readable_there a.list.now a.from a.to c.loop-o.o c.loop-o.invariant.0 c.loop-o-test.true

-- the subobject at hand lies inside the list
inside : (c : After-next_after-next) → (c.loop-o.o < c.next_after-next.result) × (c.next_after-next.result ≤ length c.args.list.now) × (c.next_after-next.result ≡ after_subobject c.args.list.now c.loop-o.o)
inside c =
    let a = c.args in
    let l = c.loop-o in
    whole-there a.list.now a.from a.to l.o l.invariant.0 c.loop-o-test.true c.next_after-next.result c.next_after-next.ensures

pub bytes_at-n-requires : goal.bytes_at-n-requires
bytes_at-n-requires c = inside (goal.at.bytes_at-n-requires c).After-next_after-next

pub slice_bounds-put_bytes-count : goal.slice_bounds-put_bytes-count
slice_bounds-put_bytes-count c = omega (arith, (inside (goal.at.slice_bounds-put_bytes-count c).After-next_after-next).0)

pub slice_bounds-put_bytes-end : goal.slice_bounds-put_bytes-end
slice_bounds-put_bytes-end c = omega (arith, (inside (goal.at.slice_bounds-put_bytes-end c).After-next_after-next).1)

pub put_bytes-end-requires : goal.put_bytes-end-requires
put_bytes-end-requires c =
    let a = c.args in
    let l = c.loop-o in
    let next = c.next_after-next in
    let fits = size_fits a.list.now a.from a.to l.o l.invariant.0 c.loop-o-test.true next.result next.ensures c.bytes_at-n.result c.bytes_at-n.ensures in
    let there = inside (goal.at.put_bytes-end-requires c).After-next_after-next in (
      omega (arith, fits, c.requires.1, l.invariant.1.next, l.invariant.2),
      omega (arith, c.bytes_at-n.ensures.inside, there.0, there.1, length-take-le (next.result - l.o) (drop l.o a.list.now) (omega (arith, there.0, there.1, length-drop l.o a.list.now))),
    )

pub loop-o-smaller : goal.loop-o-smaller
loop-o-smaller c =
    let a = c.args in
    let l = c.loop-o in
    let r = there a.list.now a.from a.to l.o l.invariant.0 c.loop-o-test.true in
    let n = c.next_after-next.ensures in
    omega (arith, r.long, r.whole)

pub loop-o-preserved : goal.loop-o-preserved
loop-o-preserved c =
    let a = c.args in
    let l = c.loop-o in
    let next = c.next_after-next in (
      passed_next a.list.now a.from a.to l.o l.invariant.0 c.loop-o-test.true next.result next.ensures,
      put_next a.list.now a.from a.to l.o l.invariant.0 c.loop-o-test.true next.result next.ensures c.bytes_at-n.result c.bytes_at-n.ensures
          (omega (arith, c.requires.1)) l.invariant.1 c.put_bytes-end.ensures,
      search rules,
    )

pub returns : goal.returns
returns c =
    let a = c.args in
    let l = c.loop-o in
    let end : l.o ≡ a.to = omega (arith, c.loop-o-test.false, l.invariant.0.left.order) in
    subst (λ (n : ℕ). Put a.at (exrs_in a.list.now a.from n) a.out.now l.out l.end) end l.invariant.1
