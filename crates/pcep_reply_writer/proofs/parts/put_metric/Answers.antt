-- `pcep_reply_writer::parts::put_metric` meets its contract: four numbers side by side, the last first.
use native.Mathlib.Omega.{arith}
use Rattle.pcep_reply_writer.proofs.Objects.{metric-put}
use Rattle.pcep_reply_writer.proofs.parts.put_metric.Goals as goal

pub returns : goal.returns
returns c =
    let a = c.args in
    let f = c.ranges in
    metric-put (record { kind = a.kind; flags = a.flags; value = a.value }) a.at a.out.now _ _ _ _ (omega arith) (omega arith) c.requires c.put_u32.ensures c.put_u16.ensures c.put_u16-2.ensures c.put_u32-2.ensures
