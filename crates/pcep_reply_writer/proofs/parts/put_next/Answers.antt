-- `pcep_reply_writer::parts::put_next` meets its contract: two numbers side by side.
use Rattle.pcep_reply_writer.proofs.Objects.{next-put}
use Rattle.pcep_reply_writer.proofs.parts.put_next.Goals as goal

pub returns : goal.returns
returns c =
    next-put c.args.address c.args.at c.args.out.now _ _ c.requires c.put_u32.ensures c.put_u32-2.ensures
