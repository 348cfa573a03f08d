-- `tree_lookup::find_entry` meets its contract. The loop's invariant: `Narrowed`, what is known after the looks so far. The measure is what is left of the part.
use Prim.Native.Nat.{◌≤◌, ◌<◌}
use mathlib.Core.Path.{◌≡◌, sym, ◌∙◌}
use native.Mathlib.Omega.{arith}
use borrow.Author.Rules.{rules}
use Rattle.tree_lookup.proofs.Narrowed.{Turn, narrowed_start, narrowed_end, turn}
use Rattle.tree_lookup.proofs.find_entry.Goals as goal
use Rattle.tree_lookup.proofs.find_entry.Goals.{In-loop-low}

pub loop-low-init : goal.loop-low-init
loop-low-init c =
    let a = c.args in
    narrowed_start a.addresses.now a.at a.count a.node.0 c.requires

-- what the look at the entry in the middle says
look_at
    : (c : In-loop-low)
    → let a = c.args in
    let l = c.loop-low in
    Turn a.addresses.now a.at a.count a.node.0 l.low l.high l.looks
look_at c =
    let start = c in
    let a = c.args in
    let l = c.loop-low in
    turn a.addresses.now a.at a.count a.node.0 c.requires l.low l.high l.looks l.invariant c.loop-low-test.true

pub returns-then-eq : goal.returns-then-eq
returns-then-eq c =
    let look = c.look-seen in
    let same : look.result.address ≡ c.args.node.0 = search rules in
    rw look.ensures.1 ((look_at (goal.at.returns-then-eq c).In-loop-low).hit (sym look.ensures.0 ∙ same))

pub loop-low-preserved-then-lt : goal.loop-low-preserved-then-lt
loop-low-preserved-then-lt c =
    let look = c.look-seen in
    let less : look.result.address < c.args.node.0 = search rules in
    rw look.ensures.1 ((look_at (goal.at.loop-low-preserved-then-lt c).In-loop-low).above (omega (arith, look.ensures.0)))

pub loop-low-preserved : goal.loop-low-preserved
loop-low-preserved c =
    let look = c.look-seen in
    let other : look.result.address ≡ c.args.node.0 → ⊥ = search rules in
    let not-less : c.args.node.0 ≤ look.result.address = search rules in
    rw look.ensures.1 ((look_at (goal.at.loop-low-preserved c).In-loop-low).below (omega (arith, look.ensures.0, other)))

pub returns : goal.returns
returns c =
    let start = c in
    let a = c.args in
    let l = c.loop-low in
    narrowed_end a.addresses.now a.at a.count a.node.0 c.requires l.low l.high l.looks l.invariant (omega (arith, c.loop-low-test.false))
