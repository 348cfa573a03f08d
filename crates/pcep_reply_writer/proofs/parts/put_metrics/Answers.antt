-- `pcep_reply_writer::parts::put_metrics` meets its contract. The loop's invariant: the METRICs passed are put.
use native.Mathlib.Omega.{arith}
use Rattle.pcep_model.specs.Pcrep.{written_metric, metrics_of}
use Rattle.pcep_laws.proofs.WrittenLength.{metric-length}
use Rattle.pcep_reply_writer.proofs.Runs.{none_put, all_put, metric_of, metrics-count, one-more-metric}
use Rattle.pcep_reply_writer.proofs.parts.put_metrics.Goals as goal

pub loop-i-init : goal.loop-i-init
loop-i-init c =
    let a = c.args in
    (omega arith, none_put written_metric (metrics_of a.metrics.kinds.now a.metrics.flags.now a.metrics.values.now) a.out.now a.start)

pub loop-i-preserved : goal.loop-i-preserved
loop-i-preserved c =
    let a = c.args in
    let l = c.loop-i in
    let p = c.put_metric-at.ensures in
    let size = metric-length (metric_of a.metrics.kinds.now a.metrics.flags.now a.metrics.values.now l.i) in (
      omega (arith, p.next, l.invariant.0),
      one-more-metric a.metrics.kinds.now a.metrics.flags.now a.metrics.values.now c.requires.1 a.start l.at _ l.i a.out.now l.out _ (omega (arith, l.invariant.0, c.requires.0, c.loop-i-test.true)) c.loop-i-test.true l.invariant.1 p,
    )

pub returns : goal.returns
returns c =
    let a = c.args in
    let l = c.loop-i in
    let n = metrics-count a.metrics.kinds.now a.metrics.flags.now a.metrics.values.now c.requires.1 in
    all_put written_metric (metrics_of a.metrics.kinds.now a.metrics.flags.now a.metrics.values.now) a.start l.at l.i a.out.now l.out (omega arith) l.invariant.1
