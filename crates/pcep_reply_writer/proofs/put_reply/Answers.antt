-- `pcep_reply_writer::put_reply` meets its contract: the parts one after the other are the message.
use Rattle.pcep_reply_writer.proofs.Message.{route-fits, metrics-fit, message_put}
use Rattle.pcep_reply_writer.specs.Routes.{is_path, addresses_of, nature_of, c_of}
use borrow.Author.Rules.{rules}
use Rattle.pcep_reply_writer.proofs.put_reply.Goals as goal

pub put_route-third-requires : goal.put_route-third-requires
put_route-third-requires c =
    let a = c.args in
    route-fits a.id a.flags (is_path a.route) (addresses_of a.route) (nature_of a.route) (c_of a.route) a.metrics.kinds.now a.metrics.flags.now a.metrics.values.now a.size a.out.now c.requires _ _ c.put_head-second.ensures (search rules)

pub put_metrics-requires : goal.put_metrics-requires
put_metrics-requires c =
    let a = c.args in
    (metrics-fit a.id a.flags (is_path a.route) (addresses_of a.route) (nature_of a.route) (c_of a.route) a.metrics.kinds.now a.metrics.flags.now a.metrics.values.now a.size a.out.now c.requires _ _ c.put_head-second.ensures _ _ c.put_route-third.ensures (search rules), c.requires.together)

pub returns : goal.returns
returns c =
    let a = c.args in
    message_put a.id a.flags (is_path a.route) (addresses_of a.route) (nature_of a.route) (c_of a.route) a.metrics.kinds.now a.metrics.flags.now a.metrics.values.now a.size a.out.now c.requires _ _ c.put_head-second.ensures _ _ c.put_route-third.ensures _ _ c.put_metrics.ensures
