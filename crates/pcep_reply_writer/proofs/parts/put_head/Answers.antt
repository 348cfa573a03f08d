-- `pcep_reply_writer::parts::put_head` meets its contract: five numbers side by side, the last first.
use Rattle.pcep_reply_writer.proofs.Objects.{head-put}
use Rattle.pcep_reply_writer.proofs.parts.put_head.Goals as goal

pub returns : goal.returns
returns c =
    head-put c.args.size c.args.flags c.args.id c.args.out.now _ _ _ _ _ c.requires c.put_u32.ensures c.put_u32-2.ensures c.put_u32-3.ensures c.put_u16.ensures c.put_u16-2.ensures
