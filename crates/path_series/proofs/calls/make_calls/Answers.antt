-- `path_series::calls::make_calls` meets its contract. The loop's invariant: what the calls made left, with the replies to those still to make, are all the replies (`Progress`).
use Prim.Native.Nat.{◌+◌, ◌*◌, ◌≤◌}
use native.Mathlib.Omega.{arith}
use lib.ListN.{length, get_or}
use Rattle.path_series.proofs.Forms.{Formed, formed}
use Rattle.path_series.proofs.Steps.{begin, said, room_here, numbers_here, turn, done}
use Rattle.path_series.proofs.calls.make_calls.Goals as goal
use Rattle.path_series.proofs.calls.make_calls.Goals.{At-loop-j, In-loop-j}

-- the arguments fit together
fit : (c : At-loop-j) → Formed c.args.kinds.now c.args.sizes.now (length c.args.buffers.now) (length c.args.numbers.now)
fit c = formed c.args.kinds.now c.args.sizes.now (length c.args.buffers.now) (length c.args.numbers.now) c.requires

-- in a turn there is room for the call's path and numbers
room : (c : In-loop-j) → c.loop-j.at + get_or c.args.sizes.now c.loop-j.j 0 ≤ length c.loop-j.buffers
room c = room_here _ _ _ _ _ _ _ _ _ _ (fit (goal.at.In-loop-j c).At-loop-j) c.loop-j.invariant c.loop-j-test.true

fives : (c : In-loop-j) → 5 * c.loop-j.j + 5 ≤ length c.loop-j.numbers
fives c = numbers_here _ _ _ _ _ _ _ _ _ _ (fit (goal.at.In-loop-j c).At-loop-j) c.loop-j.invariant c.loop-j-test.true

pub loop-j-init : goal.loop-j-init
loop-j-init c =
    let a = c.args in
    begin _ a.kinds.now a.sizes.now a.buffers.now a.numbers.now _ (formed a.kinds.now a.sizes.now (length a.buffers.now) (length a.numbers.now) c.requires)

pub offset_bounds-sizes-j : goal.offset_bounds-sizes-j
offset_bounds-sizes-j c = record { fits = omega (arith, fives c) }

pub bounds-sizes-j : goal.bounds-sizes-j
bounds-sizes-j c = omega (arith, (fit (goal.at.bounds-sizes-j c).At-loop-j).as_many, c.loop-j-test.true)

pub put_reply-number-requires : goal.put_reply-number-requires
put_reply-number-requires c =
    let by = said _ _ _ c.call-reply.ensures in
    (by.real, by.few, omega (arith, room (goal.at.put_reply-number-requires c).In-loop-j, by.fits), fives (goal.at.put_reply-number-requires c).In-loop-j)

pub loop-j-preserved : goal.loop-j-preserved
loop-j-preserved c =
    let made = c.call-reply in
    turn _ _ _ _ _ _ _ _ _ _ (fit (goal.at.loop-j-preserved c).At-loop-j) c.loop-j.invariant c.loop-j-test.true made.result made.ensures _ _ _ _
    c.put_reply-number.ensures
    c.last_path_after-last.ensures

pub returns : goal.returns
returns c = done _ _ _ _ _ _ _ _ _ _ (fit (goal.at.returns c).At-loop-j) c.loop-j.invariant c.loop-j-test.false
