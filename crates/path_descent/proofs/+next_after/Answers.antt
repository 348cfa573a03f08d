-- `path_descent::next_after` meets its contract, by recursion on the places that are left: nothing above at the end; else what is found deeper behind the hop that the given list
-- names, with the address before it, or where there is nothing the first behind a greater head. Assumes nothing.
use mathlib.Core.Path.{◌≡◌, sym, ap, subst, ◌∙◌}
use mathlib.Core.Bool.{Bool}
use mathlib.Core.List.{List, head?}
use Prim.Native.Nat.{ℕ, suc, ◌+◌}
use native.Mathlib.Numerals.{add-one}
use native.Mathlib.Omega.{arith}
use lib.ListN.{drop, get_or}
use Rattle.model.specs.Request.{Search}
use Rattle.laws.specs.Descent.{next_after}
use Rattle.path_step.specs.declared.Heads.TheVariants.{Only, Above}
use Rattle.path_step.specs.declared.Onward.{Onward}
use Rattle.path_step.specs.declared.WorkedTree.{WorkedTree}
use Rattle.path_step.specs.Worked.{Worked, Stands}
use Rattle.path_step.specs.Onward.{wanted_hops, legs_from, shortest_at, HopOn}
use Rattle.path_descent.specs.Routes.{first_by, is_found, routed, Written}
use Rattle.path_descent.proofs.Found.{nothing_written, next-end, next-greater, next-shallow, next-written, written_as}
use Rattle.path_descent.proofs.+next_after.Goals as goal
use Rattle.path_descent.proofs.+next_after.Goals.{Joined-next_hop, in-Some+else-deeper, in_default}

pub returns-then-i-tree : goal.returns-then-i-tree
returns-then-i-tree t c =
    let a = c.args in
    λ S worked stands.
    nothing_written a.i _ a.path.now (next-end S a.tree.now worked a.i a.node.0 a.here stands (drop (suc a.i) a.given.now) c.if-i-tree.true)

-- the hop that the list names, and what the call behind it says and has written, by their places as the proofs count them
module _ (S : Search) (i a : ℕ) (given : List ℕ) (on : Onward) where
  named : HopOn S i a (Only (record { 0 = get_or given (i + 1) 0 })) on → HopOn S i a (Only (record { 0 = get_or given (suc i) 0 })) on
  named = subst (λ (n : ℕ). HopOn S i a (Only (record { 0 = get_or given n 0 })) on) (add-one i)

  behind
      : (T : WorkedTree) → Worked S T → Stands S (suc i) on.head.0 on.reach → (old new : List ℕ) (found : Bool)
      → ((X : Search) → Worked X T → Stands X (i + 1) on.head.0 on.reach → Written (i + 1) (next_after X (legs_from X (i + 1)) (i + 1) on.head.0 (drop (suc (i + 1)) given)) old found new)
      → Written (suc i) (next_after S (legs_from S (suc i)) (suc i) on.head.0 (drop (suc (suc i)) given)) old found new
  behind T worked stands old new found says =
      subst (λ (n : ℕ). Written n (next_after S (legs_from S n) n on.head.0 (drop (suc n) given)) old found new) (add-one i)
      (says S worked (subst (λ (n : ℕ). Stands S n on.head.0 on.reach) (sym (add-one i)) stands))

pub returns-then-deeper : goal.returns-then-deeper
returns-then-deeper t c =
    let a = c.args in
    let known = c in
    let on = c.in-Some.on in
    λ S worked stands.
    let hop = named S a.i a.node.0 a.given.now on (c.in-Some.ensures S worked stands) in
    next-written S a.tree.now worked a.i a.node.0 a.here stands a.given.now c.requires.inside.2 (omega arith) on hop a.path.now _ c.requires.inside.1
    (written_as _ _ _ _ _ c.if-deeper.true (behind S a.i a.node.0 a.given.now on a.tree.now worked hop.stands _ _ _ c.next_after-deeper.ensures))

-- where the list names no hop, or nothing is found behind it: nothing is written, and what is left are the greater heads
nothing_yet
    : (t : ℕ) (c : Joined-next_hop t) (S : Search)
    → Worked S c.args.tree.now
    → Stands S c.args.i c.args.node.0 c.args.here
    → (c.match-next_hop.path ≡ c.args.path.now)
    × (next_after S (legs_from S c.args.i) c.args.i c.args.node.0 (drop (suc c.args.i) c.args.given.now)
    ≡ first_by S (legs_from S c.args.i) c.args.i c.args.node.0 (Above (record { 0 = get_or c.args.given.now (suc c.args.i) 0 })))
nothing_yet t c S worked stands =
    let a = c.args in
    let known = c in
    elim c.match-next_hop.branch [
      | in-Some+else-deeper w ↦
          let on = w.in-Some.on in
          let hop = named S a.i a.node.0 a.given.now on (w.in-Some.ensures S worked stands) in
          let k = next-shallow S a.tree.now worked a.i a.node.0 a.here stands a.given.now c.requires.inside.2 (omega arith) on hop
          a.path.now _ (written_as _ _ _ _ _ w.if-deeper.false (behind S a.i a.node.0 a.given.now on a.tree.now worked hop.stands _ _ _ w.next_after-deeper.ensures)) in
          (w.path-is ∙ k.0, k.1)
      | in_default w ↦ (
        w.path-is,
        next-greater S a.tree.now worked a.i a.node.0 a.here stands a.given.now c.requires.inside.2 (omega arith)
            (ap (λ (n : ℕ). head? (wanted_hops (Only (record { 0 = get_or a.given.now n 0 })) (shortest_at S a.i a.node.0))) (sym (add-one a.i))
            ∙ w.in_default.ensures S worked stands),
      )
    ]

pub returns : goal.returns
returns t c =
    let a = c.args in
    λ S worked stands.
    let yet = nothing_yet t (goal.at.returns t c).Joined-next_hop S worked stands in
    let w = c.first_by.ensures S worked stands in
    let o = ap (λ (n : ℕ). first_by S (legs_from S a.i) a.i a.node.0 (Above (record { 0 = get_or a.given.now n 0 }))) (add-one a.i) ∙ sym yet.1 in
    record {
      says = w.says ∙ ap is_found o;
      holds = w.holds ∙ (λ j. routed a.i (o j) (yet.0 j));
    }
