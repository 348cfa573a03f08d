-- `list_writer::parts::put_system` meets its contract: nothing for the AS before, else four bytes and the number.
use native.Mathlib.Omega.{arith}
use borrow.Author.Rules.{rules}
use Rattle.list_writer.proofs.WrittenParts.{system-long, system_put}
use Rattle.list_writer.proofs.parts.put_system.Goals as goal

pub put_u32-requires : goal.put_u32-requires
put_u32-requires c = let room = system-long c.args.again c.args.asn c.if-again.false in search rules

pub returns : goal.returns
returns c =
    let a = c.args in
    system_put a.again a.asn a.at _ a.out.now _ _ c.if-again.false (omega (arith, c.requires)) c.put_bytes-rest.ensures c.put_u32.ensures
