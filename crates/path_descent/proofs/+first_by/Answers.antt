-- `path_descent::first_by` meets its contract, by recursion on the places that are left: the address alone at the end, else behind the next hop what the call there writes, and the
-- address before it. Assumes nothing.
use mathlib.Core.Path.{sym, ap, subst, ◌∙◌}
use Prim.Native.Nat.{ℕ}
use native.Mathlib.Numerals.{add-one}
use native.Mathlib.Omega.{arith}
use Rattle.path_step.specs.declared.Heads.TheVariants.{Any}
use Rattle.path_step.specs.Worked.{Stands}
use Rattle.path_step.specs.Onward.{legs_from}
use Rattle.path_descent.specs.Routes.{first_by, routed}
use Rattle.path_descent.proofs.Found.{nothing_written, last_written, first-none, first-written}
use Rattle.path_descent.proofs.+first_by.Goals as goal

pub returns-then-i-tree : goal.returns-then-i-tree
returns-then-i-tree t c =
    let a = c.args in
    let known = c in
    λ S worked stands.
    last_written S a.tree.now worked a.i a.node.0 a.here stands a.which a.path.now c.if-i-tree.true (omega arith)

pub returns-in_default : goal.returns-in_default
returns-in_default t c =
    let a = c.args in
    let known = c in
    λ S worked stands.
    nothing_written a.i _ a.path.now
    (first-none S a.tree.now worked a.i a.node.0 a.here stands a.which (omega arith) (c.in_default.ensures S worked stands))

pub returns : goal.returns
returns t c =
    let a = c.args in
    let known = c in
    let on = c.in-Some.on in
    λ S worked stands.
    let hop = c.in-Some.ensures S worked stands in
    let behind = (c.first_by.ensures S worked (subst (λ (n : ℕ). Stands S n on.head.0 on.reach) (sym (add-one a.i)) hop.stands)).holds in
    first-written S a.tree.now worked a.i a.node.0 a.here stands a.which _ a.path.now _ (omega arith) (omega arith) hop
    (behind ∙ ap (λ (n : ℕ). routed n (first_by S (legs_from S n) n on.head.0 Any) a.path.now) (add-one a.i))
