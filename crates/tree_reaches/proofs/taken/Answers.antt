-- `tree_reaches::taken` meets its contract: the machine's comparison of the bandwidths is that of exact values, and then it is a step of the running minimum.
use mathlib.Core.Path.{◌≡◌, refl, sym, ap, ◌∙◌}
use mathlib.Core.Bool.{Bool, true, false}
use Prim.Native.Nat.{ℕ}
use borrow.Author.Rules.{rules}
use lib.Ieee.{le}
use lib.Seq.{slice}
use Rattle.model.specs.Floats.{at_least}
use Rattle.laws.proofs.BoundExact.{bandwidth_exact}
use Rattle.laws.specs.Reach.{unreached, reach_if, better, via}
use Rattle.laws.proofs.Reach.{better_none}
use Rattle.tree_reaches.specs.Reaches.{reach_of, beside}
use Rattle.tree_reaches.proofs.taken.Goals as goal
use Rattle.tree_reaches.proofs.taken.Goals.{After-struct_known-1}

-- the machine's comparison is that of exact values
exact : (c : After-struct_known-1) → le c.args.asked c.args.h.bandwidth ≡ at_least c.args.asked c.args.h.bandwidth
exact c =
    bandwidth_exact c.args.asked c.args.h.bandwidth (search rules) (search rules) c.requires.cost_le_cost_limit.1 c.requires.cost_le_cost_limit.2

pub relax-requires : goal.relax-requires
relax-requires c =
    let a = c.args in
    let pre = c.requires in (
      pre.cost_le_cost_limit.0,
      rw c.reach_of-there.ensures (pre.next_place.small a.h.head.0),
    )

pub returns-then-asked-h : goal.returns-then-asked-h
returns-then-asked-h c =
    let a = c.args in
    let enough : at_least a.asked a.h.bandwidth ≡ true =
    sym (exact (goal.at.returns-then-asked-h c).After-struct_known-1) ∙ c.if-asked-h.true in
    c.relax.ensures
    ∙ ap (λ (n : ℕ). better (reach_of a.best) (via a.h.cost (reach_of n))) c.reach_of-there.ensures
    ∙ sym
    (ap
    (λ (b : Bool). better (reach_of a.best) (reach_if b (via a.h.cost (reach_of (beside (slice a.from a.to a.addresses.now) (slice a.from a.to a.reaches.now) a.h.head.0)))))
    enough)

pub returns : goal.returns
returns c =
    let a = c.args in
    let short : at_least a.asked a.h.bandwidth ≡ false =
    sym (exact (goal.at.returns c).After-struct_known-1) ∙ c.if-asked-h.false in
    sym
    (ap
    (λ (b : Bool). better (reach_of a.best) (reach_if b (via a.h.cost (reach_of (beside (slice a.from a.to a.addresses.now) (slice a.from a.to a.reaches.now) a.h.head.0)))))
    short
    ∙ better_none (reach_of a.best) unreached refl)
