-- `tree_reaches::reach_of` meets its contract: what stands beside the place that the look-up finds (`beside-found`), or nothing.
use mathlib.Core.Path.{◌≡◌, sym}
use Prim.Native.Nat.{◌≤◌, ◌<◌}
use native.Mathlib.Omega.{arith}
use borrow.Author.Rules.{rules}
use lib.ListN.{length, get_or}
use lib.Seq.{slice}
use Rattle.tree_reaches.specs.Reaches.{beside}
use Rattle.tree_reaches.proofs.Places.{beside-found, beside-missing}
use Rattle.tree_reaches.proofs.reach_of.Goals as goal
use Rattle.tree_reaches.proofs.reach_of.Goals.{In-Some}

-- the place found lies in both parts, and what stands beside it there
beside-it
    : (c : In-Some)
    → let a = c.args in
    let i = c.in-Some.i in
    (a.from ≤ i) × (i < a.to) × (beside (slice a.from a.to a.addresses.now) (slice a.from a.to a.reaches.now) a.node.0 ≡ get_or a.reaches.now i 0)
beside-it c =
    let a = c.args in
    let found = c.find_entry-found in
    beside-found a.addresses.now a.reaches.now a.from a.to a.node.0 c.requires.0 c.requires.1 c.requires.2 found.result found.ensures c.in-Some.i c.in-Some.is

inside : (c : In-Some) → c.in-Some.i < length c.args.reaches.now
inside c = omega (arith, c.requires.2, (beside-it c).1)

pub offset_bounds-reaches-i : goal.offset_bounds-reaches-i
offset_bounds-reaches-i c = let h = inside (goal.at.offset_bounds-reaches-i c).In-Some in search rules

pub bounds-reaches-i : goal.bounds-reaches-i
bounds-reaches-i c = inside (goal.at.bounds-reaches-i c).In-Some

pub returns-in-Some : goal.returns-in-Some
returns-in-Some c = sym (beside-it (goal.at.returns-in-Some c).In-Some).2

pub returns-in-None : goal.returns-in-None
returns-in-None c =
    let a = c.args in
    let found = c.find_entry-found in
    sym
    (beside-missing a.addresses.now a.reaches.now a.from a.to a.node.0 c.requires.0 c.requires.1 c.requires.2 found.result found.ensures c.in-None.is)
