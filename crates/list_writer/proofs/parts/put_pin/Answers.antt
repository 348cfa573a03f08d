-- `list_writer::parts::put_pin` meets its contract: nothing without a node, else three numbers in a row.
use native.Mathlib.Omega.{arith}
use borrow.Author.Rules.{rules}
use Rattle.list_writer.proofs.WrittenParts.{pin-long, pin_put}
use Rattle.list_writer.proofs.parts.put_pin.Goals as goal

pub put_u32-requires : goal.put_u32-requires
put_u32-requires c = let room = pin-long c.args.pin _ c.in-Some.is in search rules

pub returns : goal.returns
returns c =
    let a = c.args in
    pin_put a.pin _ a.at a.out.now _ _ _ c.in-Some.is (omega (arith, c.requires, pin-long a.pin _ c.in-Some.is)) c.put_u16.ensures c.put_u32.ensures c.put_u16-2.ensures
