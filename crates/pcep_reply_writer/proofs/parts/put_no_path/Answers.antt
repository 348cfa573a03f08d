-- `pcep_reply_writer::parts::put_no_path` meets its contract: three numbers in a row, of which one is two bytes.
use native.Mathlib.Omega.{arith}
use Rattle.pcep_reply_writer.proofs.Objects.{no-path-put}
use Rattle.pcep_reply_writer.proofs.parts.put_no_path.Goals as goal

pub returns : goal.returns
returns c =
    let a = c.args in
    let f = c.ranges in
    let flags = c.flags_of-flags in
    no-path-put a.nature a.c flags.result a.at a.out.now _ _ _ (omega arith) flags.ensures.0 (omega (arith, flags.ensures.1)) c.requires
    c.put_u32.ensures
    c.put_u16.ensures
    c.put_u16-2.ensures
