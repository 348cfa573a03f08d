-- `list_exclusion::exrs::found_at` meets its contract: only type 33 carries exclusions, and what it carries is a list of right form by itself.
use Prim.Native.Nat.{ℕ, ◌+◌, ◌-◌}
use mathlib.Core.Path.{◌≡◌, sym, ap, ◌∙◌}
use mathlib.Core.List.{List}
use native.Mathlib.Omega.{arith}
use borrow.Author.Tests.{eqb-true}
use lib.ListN.{length}
use Rattle.model.specs.Verdict.{Pass}
use Rattle.model.specs.declared.ListKind.TheVariants.{Include, Exclude}
use Rattle.model.specs.Bytes.{part}
use Rattle.model.specs.Subobject.{type_at, length_at, subobjects, form_verdict, subobject_verdict}
use Rattle.laws.proofs.Walk.{Right, right_subobject}
use Rattle.laws.proofs.Exrs.{inside-right}
use Rattle.list_exclusion.specs.Tests.{some_passes}
use Rattle.list_exclusion.proofs.Carried.{no_exrs, an_exrs}
use Rattle.list_exclusion.proofs.exrs.found_at.Goals as goal

-- the EXRS lies inside the list
there : (s : List ℕ) (at : ℕ) → subobject_verdict Include s (length s) at ≡ Pass → Right Include s (length s) at
there s at e = right_subobject Include s (length s) at e

-- the part that is lent
lent : (s : List ℕ) (at next : ℕ) → next ≡ at + length_at s at → part s (at + 4) (next - (at + 4)) ≡ part s (at + 4) (length_at s at - 4)
lent s at next e = let n : next - (at + 4) ≡ length_at s at - 4 = omega arith in ap (part s (at + 4)) n

lent_right
    : (s : List ℕ) (at next : ℕ)
    → subobject_verdict Include s (length s) at ≡ Pass → next ≡ at + length_at s at → type_at s at ≡ 33
    → form_verdict Exclude (part s (at + 4) (next - (at + 4))) ≡ Pass
lent_right s at next e n t = rw (lent s at next n) (inside-right s (length s) at (omega arith) e t)

pub bounds-list-at : goal.bounds-list-at
bounds-list-at g c = omega (arith, (there c.args.list.now c.args.at c.requires.right.0).head)

pub returns-else-is_exrs : goal.returns-else-is_exrs
returns-else-is_exrs g c = let a = c.args in λ q h. c.if-is_exrs.false ∙ sym (no_exrs q a.list.now a.at (sym c.is_exrs.ensures ∙ c.if-is_exrs.false))

pub slice_bounds-found-count : goal.slice_bounds-found-count
slice_bounds-found-count g c = omega (arith, (there c.args.list.now c.args.at c.requires.right.0).long, c.requires.right.1)

pub slice_bounds-found-start : goal.slice_bounds-found-start
slice_bounds-found-start g c = omega (arith, (there c.args.list.now c.args.at c.requires.right.0).long, c.requires.right.1)

pub slice_bounds-found-end : goal.slice_bounds-found-end
slice_bounds-found-end g c = omega (arith, (there c.args.list.now c.args.at c.requires.right.0).whole, c.requires.right.1)

pub found-requires : goal.found-requires
found-requires g c =
    let a = c.args in
    c.requires.callable _
    (lent_right a.list.now a.at a.next c.requires.right.0 c.requires.right.1 (eqb-true (type_at a.list.now a.at) 33 (sym c.is_exrs.ensures ∙ c.if-is_exrs.true)))

pub returns-then-is_exrs : goal.returns-then-is_exrs
returns-then-is_exrs g c =
    let a = c.args in
    let s = a.list.now in
    let t = sym c.is_exrs.ensures ∙ c.if-is_exrs.true in
    λ q h.
    h _ c.found.result (lent_right s a.at a.next c.requires.right.0 c.requires.right.1 (eqb-true (type_at s a.at) 33 t)) c.found.ensures
    ∙ ap (λ (l : List ℕ). some_passes q (subobjects l)) (lent s a.at a.next c.requires.right.1)
    ∙ sym (an_exrs q s a.at t)
