-- `list_exclusion::exrs::first_exrs` meets its contract. The loop's invariant: what is left of the stretch carries what all of it does. The measure is what is left.
use Prim.Native.Nat.{ℕ, ◌<◌}
use mathlib.Core.Path.{◌≡◌, refl, sym, ap, subst, ◌∙◌}
use mathlib.Core.List.{List, ◌++◌}
use native.Mathlib.Omega.{arith}
use mathlib.Core.Bool.{false}
use lib.Dec.{eqb}
use Rattle.model.specs.Verdict.{Pass}
use Rattle.model.specs.declared.ListKind.TheVariants.{Include}
use Rattle.model.specs.Subobject.{Subobject, type_at, subobject_verdict, after_subobject, inside_of}
use Rattle.laws.specs.Exrs.{Stretch, carried_in}
use Rattle.laws.proofs.Walk.{right_here, right_next, right_subobject}
use Rattle.laws.proofs.Exrs.{no_33}
use Rattle.laws.proofs.Waiting.{stretch-alone, carried-alone, carried_join}
use Rattle.list_subobject.proofs.FormLaws.{readable}
use Rattle.list_exclusion.proofs.exrs.first_exrs.Goals as goal

-- what is left after the subobject at an offset that is no EXRS
module _ (s : List ℕ) (at to : ℕ) (left : Stretch s at to) (h : at < to) where
  here : subobject_verdict Include s to at ≡ Pass
  here = right_here Include s to at h left.right

  rest : Stretch s (after_subobject s at) to
  rest = record { order = (right_subobject Include s to at here).whole; inside = left.inside; right = right_next Include s to at h left.right }

  same_left : eqb (type_at s at) 33 ≡ false → carried_in s at to ≡ carried_in s (after_subobject s at) to
  same_left d =
      carried_join s at (after_subobject s at) to (stretch-alone s at to left.inside here) rest
      ∙ ap {B = List Subobject} (λ (l : List Subobject). l ++ carried_in s (after_subobject s at) to)
      (carried-alone s at to left.inside here ∙ no_33 inside_of (λ a n. refl) (λ n. refl) (λ a. refl) s at d)

pub loop-at-init : goal.loop-at-init
loop-at-init c = (c.requires, refl)

pub bounds-list-at : goal.bounds-list-at
bounds-list-at c =
    let inside = c.loop-at.invariant.0.inside in
    omega (arith, c.loop-at-test.true)

pub returns-then-is_exrs : goal.returns-then-is_exrs
returns-then-is_exrs c = c.loop-at.invariant

pub next_after-at-requires : goal.next_after-at-requires
next_after-at-requires c =
    let a = c.args in
    let l = c.loop-at in
    readable Include a.list.now a.to l.at l.invariant.0.inside (here a.list.now l.at a.to l.invariant.0 c.loop-at-test.true)

pub loop-at-smaller : goal.loop-at-smaller
loop-at-smaller c =
    let a = c.args in
    let l = c.loop-at in
    let r = right_subobject Include a.list.now a.to l.at (here a.list.now l.at a.to l.invariant.0 c.loop-at-test.true) in
    let n = c.next_after-at.ensures in
    omega (arith, r.long, r.whole)

pub loop-at-preserved : goal.loop-at-preserved
loop-at-preserved c =
    let a = c.args in
    let s = a.list.now in
    let l = c.loop-at in
    let h = c.loop-at-test.true in
    subst (λ (n : ℕ). Stretch s n a.to × (carried_in s n a.to ≡ carried_in s a.from a.to)) (sym c.next_after-at.ensures)
    (rest s l.at a.to l.invariant.0 h, sym (same_left s l.at a.to l.invariant.0 h (sym c.is_exrs.ensures ∙ c.if-is_exrs.false)) ∙ l.invariant.1)

pub returns : goal.returns
returns c =
    let a = c.args in
    let l = c.loop-at in
    let same : l.at ≡ a.to = omega (arith, l.invariant.0.order, c.loop-at-test.false) in
    subst (λ (n : ℕ). Stretch a.list.now n a.to × (carried_in a.list.now n a.to ≡ carried_in a.list.now a.from a.to)) same l.invariant
