-- `path_step::tried` meets its contract: the three tests of a hop record, in the code's order; the machine's comparison of the bandwidths is that of exact values.
use mathlib.Core.Path.{◌≡◌, sym, ap, ◌∙◌}
use mathlib.Core.Bool.{Bool, false}
use borrow.Author.Rules.{rules}
use Prim.Native.Nat.{ℕ}
use Rattle.std.specs.Prelude.{Option, Some, None}
use Rattle.model.specs.declared.Hop.{Hop}
use Rattle.laws.proofs.BoundExact.{bandwidth_exact}
use Rattle.laws.specs.Descent.{on_shortest}
use Rattle.tree_reaches.specs.Reaches.{reach_of}
use Rattle.path_step.specs.declared.Judge.{Judge}
use Rattle.path_step.specs.declared.Onward.{Onward}
use Rattle.path_step.specs.Onward.{is_taken, onward, onward_if}
use Rattle.path_step.proofs.Turns.{too_narrow, not_wanted, costs-decide}
use Rattle.path_step.proofs.tried.Goals as goal
use Rattle.path_step.proofs.tried.Goals.{After-on_shortest}

-- not taken
passed_over : (by : Judge) (h : Hop) → is_taken by h ≡ false → None ≡ onward_if (is_taken by h) (onward by h)
passed_over by h e = sym (ap (λ (b : Bool). onward_if b (onward by h)) e)

pub returns-then-not-wanted : goal.returns-then-not-wanted
returns-then-not-wanted c =
    let by = c.args.by in
    passed_over by c.args.h (not_wanted by c.args.h (sym c.wanted.ensures ∙ c.if-not-wanted.true))

pub returns-then-not-by-h : goal.returns-then-not-by-h
returns-then-not-by-h c =
    let by = c.args.by in
    let known = c in
    let exact = bandwidth_exact by.asked c.args.h.bandwidth (search rules) (search rules) c.requires.fit.bandwidth-right c.requires.cost_le_cost_limit.1 in
    passed_over by c.args.h (too_narrow by c.args.h (sym exact ∙ c.if-not-by-h.true))

pub on_shortest-requires : goal.on_shortest-requires
on_shortest-requires c =
    (c.requires.cost_le_cost_limit.0, rw c.reach_of-reach.ensures (c.requires.fit.next_place.small c.args.h.head.0), c.requires.fit.reached)

-- the tests before the cost hold
decided : (c : After-on_shortest) → c.on_shortest.result ≡ is_taken c.args.by c.args.h
decided c =
    let by = c.args.by in
    let known = c in
    let exact = bandwidth_exact by.asked c.args.h.bandwidth (search rules) (search rules) c.requires.fit.bandwidth-right c.requires.cost_le_cost_limit.1 in
    c.on_shortest.ensures
    ∙ ap (λ (n : ℕ). on_shortest (reach_of by.here) c.args.h (reach_of n)) c.reach_of-reach.ensures
    ∙ sym (costs-decide by c.args.h (sym exact ∙ c.if-not-by-h.false) (sym c.wanted.ensures ∙ c.if-not-wanted.false))

pub returns-then-not-on_shortest : goal.returns-then-not-on_shortest
returns-then-not-on_shortest c =
    passed_over c.args.by c.args.h (sym (decided (goal.at.returns-then-not-on_shortest c).After-on_shortest) ∙ c.if-not-on_shortest.true)

pub returns : goal.returns
returns c =
    let by = c.args.by in
    let h = c.args.h in
    ap {B = Option Onward} (λ (n : ℕ). Some (record { head = h.head; reach = n })) c.reach_of-reach.ensures
    ∙ sym (ap (λ (b : Bool). onward_if b (onward by h)) (sym (decided (goal.at.returns c).After-on_shortest) ∙ c.if-not-on_shortest.false))
