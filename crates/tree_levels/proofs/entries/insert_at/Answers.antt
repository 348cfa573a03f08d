-- `tree_levels::entries::insert_at` meets its contract: where the node was sought it is found, or put in.
use Prim.Native.Nat.{◌<◌}
use native.Mathlib.Omega.{arith}
use mathlib.Core.Path.{sym, ◌∙◌}
use lib.Dec.{ltb}
use borrow.Author.Tests.{ltb-true}
use Rattle.laws.proofs.Tests.{and_both}
use Rattle.tree_levels.proofs.Placing.{known-stays, length_new, new-placed}
use Rattle.tree_levels.proofs.entries.insert_at.Goals as goal

pub returns-then-is_at : goal.returns-then-is_at
returns-then-is_at c =
    let a = c.args in
    let found = c.seek-at in
    let t = sym c.is_at.ensures ∙ c.if-is_at.true in
    let inside : found.result < a.end = ltb-true _ _ (and_both (ltb found.result a.end) _ t).0 in
    let stays = known-stays a.addresses.now a.from a.end a.node.0 found.result found.ensures (omega arith) t in
    record {
      end_value = (stays.0, found.ensures.low, inside);
      addresses_after = stays.1;
    }

pub put_before-requires : goal.put_before-requires
put_before-requires c =
    let a = c.args in
    let found = c.seek-at in
    let new = sym c.is_at.ensures ∙ c.if-is_at.false in
    let long = length_new a.addresses.now a.from a.end a.node.0 found.result found.ensures (omega arith) new in
    (found.ensures.high, omega arith, omega arith)

pub returns : goal.returns
returns c =
    let a = c.args in
    let found = c.seek-at in
    let new = sym c.is_at.ensures ∙ c.if-is_at.false in
    let put = new-placed a.addresses.now a.from a.end a.node.0 found.result found.ensures (omega arith) new in
    record {
      end_value = (put.0, found.ensures.low, omega (arith, found.ensures.high));
      addresses_after = c.put_before.ensures ∙ put.1;
    }
