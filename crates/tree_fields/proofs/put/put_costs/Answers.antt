-- `tree_fields::put::put_costs` meets its contract. The loop's invariant: the costs of the first i entries are written.
use mathlib.Core.List.{map}
use native.Mathlib.Omega.{arith}
use lib.ListN.{take}
use Rattle.buffers.proofs.Copies.{copied_none}
use Rattle.tree_fields.specs.Fields.{cost_of}
use Rattle.tree_fields.proofs.Fields.{part-more, part-whole}
use Rattle.tree_fields.proofs.put.put_costs.Goals as goal

pub loop-i-init : goal.loop-i-init
loop-i-init c = let a = c.args in (copied_none (map cost_of (take a.n a.codes.now)) a.out.now)

pub loop-i-preserved : goal.loop-i-preserved
loop-i-preserved c =
    let l = c.loop-i in
    let start = c in
    let a = c.args in
    (part-more cost_of a.codes.now a.out.now a.n c.requires.1 c.requires.2 l.out l.i l.invariant _ c.loop-i-test.true c.cost_of.ensures)

pub returns : goal.returns
returns c =
    let l = c.loop-i in
    let start = c in
    let a = c.args in
    part-whole cost_of a.codes.now a.out.now a.n c.requires.1 c.requires.2 l.out l.i l.invariant (omega arith)
