-- `buffers::put_bytes` meets its contract: what is put goes on by a byte, and ends with all of them.
use mathlib.Core.Path.{refl}
use native.Mathlib.Omega.{arith}
use lib.ListN.{length-set}
use lib.Seq.{paste-zero}
use Rattle.buffers.proofs.Places.{one_more, all_put}
use Rattle.buffers.proofs.put_bytes.Goals as goal

pub loop-j-init : goal.loop-j-init
loop-j-init c = (paste-zero c.args.out.now c.args.at c.args.bytes.now, refl)

pub loop-j-preserved : goal.loop-j-preserved
loop-j-preserved c =
    let l = c.loop-j in
    let a = c.args in
    (one_more a.out.now l.out a.bytes.now a.at l.j (omega arith) (omega arith) l.invariant.0, simp length-set l.invariant.1)

pub returns : goal.returns
returns c =
    let l = c.loop-j in
    let a = c.args in
    all_put a.out.now l.out a.bytes.now a.at l.j a.n (omega arith) (omega arith) l.invariant.0
