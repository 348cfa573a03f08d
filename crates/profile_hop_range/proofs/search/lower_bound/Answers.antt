-- `profile_hop_range::search::lower_bound` meets its contract. The loop's invariant: `low` and `high` bracket the place looked for. The measure is how far they are apart.
use Prim.Native.Nat.{ℕ, ◌+◌, ◌-◌, ◌/◌}
use native.Mathlib.Omega.{arith}
use Rattle.laws.proofs.Accepted.{accepted}
use Rattle.laws.proofs.Halving.{Halves, bracket_start, bracket-halves}
use Rattle.profile_records.proofs.AcceptedHops.{hop-inside}
use Rattle.profile_records.specs.Layout.{layout_of}
use Rattle.profile_hop_range.proofs.Halving.{key_at, keys_in_order, bracket-end}
use Rattle.profile_hop_range.proofs.search.lower_bound.Goals as goal
use Rattle.profile_hop_range.proofs.search.lower_bound.Goals.{After-key_at-here}

-- what the key in the middle says
halves : (c : After-key_at-here)
    → let l = c.loop-low in
    let a = c.args in
    Halves (key_at (layout_of a.layout) a.s.now) a.from a.to a.key a.key l.low l.high (l.low + (l.high - l.low) / 2)
halves c =
    let l = c.loop-low in
    let known = c in
    let a = c.args in
    let L = layout_of a.layout in
    let s = a.s.now in
    bracket-halves (key_at L s) a.from a.to a.key a.key l.low l.high (l.low + (l.high - l.low) / 2)
    (keys_in_order L s (λ (k : ℕ). (c.type_inv.s k).fits) (accepted L s c.requires.right_profile.passed) a.from a.to c.requires.from_le_to.1)
    l.invariant (omega arith) (omega arith)

pub loop-low-init : goal.loop-low-init
loop-low-init c =
    let a = c.args in
    bracket_start (key_at (layout_of a.layout) a.s.now) a.from a.to a.key a.key c.requires.from_le_to.0

pub key_at-here-requires : goal.key_at-here-requires
key_at-here-requires c =
    let at_start = c in
    let a = c.args in
    hop-inside (layout_of a.layout) a.s.now c.requires.right_profile _ (omega arith)

pub loop-low-preserved-then-here-key : goal.loop-low-preserved-then-here-key
loop-low-preserved-then-here-key c = (halves (goal.at.loop-low-preserved-then-here-key c).After-key_at-here).0 (omega (arith, c.key_at-here.ensures))

pub loop-low-preserved : goal.loop-low-preserved
loop-low-preserved c = (halves (goal.at.loop-low-preserved c).After-key_at-here).1 (omega (arith, c.key_at-here.ensures))

pub returns : goal.returns
returns c =
    let a = c.args in
    let l = c.loop-low in
    bracket-end (layout_of a.layout) a.s.now a.from a.to a.key l.low l.high l.invariant c.loop-low-test.false
