-- `pcep_reply_writer::parts::put_steps` meets its contract. The loop's invariant: the addresses passed but the first are put behind it.
use native.Mathlib.Omega.{arith}
use Prim.Native.Nat.{◌≤◌}
use lib.ListN.{length, get_or}
use Rattle.pcep_reply_writer.proofs.Steps.{first_length, next_length, none_further, one_further, steps_none, steps-put}
use borrow.Author.Rules.{rules}
use Rattle.pcep_reply_writer.proofs.parts.put_steps.Goals as goal

pub returns-then-is_empty : goal.returns-then-is_empty
returns-then-is_empty c =
    let a = c.args in
    steps_none a.addresses.now a.out.now a.start (search rules)

pub loop-i-init : goal.loop-i-init
loop-i-init c =
    let a = c.args in
    let p = c.put_first-at.ensures in
    let size = first_length (get_or a.addresses.now 0 0) in
    (omega (arith, p.next), omega (arith, p.next), none_further a.addresses.now _ _)

pub loop-i-preserved : goal.loop-i-preserved
loop-i-preserved c =
    let a = c.args in
    let l = c.loop-i in
    let p = c.put_next-at.ensures in
    let size = next_length (get_or a.addresses.now l.i 0) in (
      omega (arith, p.next, l.invariant.0),
      l.invariant.1,
      one_further a.addresses.now _ l.at _ l.i _ l.out _ (omega (arith, l.invariant.0, c.requires, c.loop-i-test.true)) l.auto.i c.loop-i-test.true l.invariant.2 p,
    )

pub returns : goal.returns
returns c =
    let a = c.args in
    let l = c.loop-i in
    let some : 1 ≤ length a.addresses.now = search rules in
    steps-put a.addresses.now a.start _ l.at l.i a.out.now _ l.out _ (omega (arith, c.requires)) some c.loop-i-test.false c.put_first-at.ensures l.invariant.2 c.put_u16.ensures
