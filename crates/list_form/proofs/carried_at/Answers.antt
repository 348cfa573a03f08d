-- `list_form::carried_at` meets its contract: only type 33 carries something; its length says whether there is anything inside, and what there is has an exclude list's form.
use Prim.Native.Nat.{ℕ, ◌+◌, ◌≤◌}
use mathlib.Core.Path.{◌≡◌, refl, sym, ap, ◌∙◌}
use mathlib.Core.Bool.{Bool}
use mathlib.Core.List.{List}
use native.Mathlib.Omega.{arith}
use borrow.Author.Tests.{eq-eqb, ne_eqb}
use Rattle.model.specs.declared.ListKind.TheVariants.{Include, Exclude}
use Rattle.model.specs.Subobject.{type_at, length_at, area_length_at, carried_verdict, carried_if, subobject_verdict, after_subobject, form_from}
use Rattle.laws.proofs.Forms.{pass_right}
use Rattle.laws.proofs.Walk.{length-least}
use Rattle.list_subobject.specs.Items.{Readable}
use Rattle.refusal.specs.Refused.{refusal}
use Rattle.list_form.proofs.carried_at.Goals as goal
use Rattle.list_form.proofs.carried_at.Goals.{Start}

module _ (s : List ℕ) (at : ℕ) where
  nothing-inside : length_at s at ≡ 4 → carried_verdict s at ≡ refusal 26 at
  unfolding carried_verdict
  nothing-inside e = rw (eq-eqb (length_at s at) 4 e) refl

  some-inside : (length_at s at ≡ 4 → ⊥) → carried_verdict s at ≡ form_from Exclude s (after_subobject s at) (at + 4)
  unfolding carried_verdict subobject_verdict
  some-inside e = rw (ne_eqb (length_at s at) 4 e) refl

-- what the right head says: the subobject lies inside the list and is as long as its type may be
there : (c : Start) → Readable c.args.list.now c.args.at
there c =
    let r = pass_right c.requires.0 in
    record { kind = Include; long = r.header; inside = r.whole; fits = r.size_fits }

long : (c : Start) → 4 ≤ length_at c.args.list.now c.args.at
long c = let s = c.args.list.now in let at = c.args.at in length-least Include (type_at s at) (area_length_at s at) (length_at s at) (pass_right c.requires.0).size_fits

pub bounds-list-at : goal.bounds-list-at
bounds-list-at c = omega (arith, (there (goal.at.bounds-list-at c).Start).long)

pub returns-then-not-is_exrs : goal.returns-then-not-is_exrs
returns-then-not-is_exrs c =
    let a = c.args in
    sym (ap (λ (b : Bool). carried_if b a.list.now a.at) (sym c.is_exrs.ensures ∙ c.if-not-is_exrs.true))

pub next_after-end-requires : goal.next_after-end-requires
next_after-end-requires c = there (goal.at.next_after-end-requires c).Start

pub overflow_add-inside : goal.overflow_add-inside
overflow_add-inside c = omega (arith, (there (goal.at.overflow_add-inside c).Start).long)

pub refuse_at-requires : goal.refuse_at-requires
refuse_at-requires c = omega (arith, (there (goal.at.refuse_at-requires c).Start).long)

pub returns-then-end-inside : goal.returns-then-end-inside
returns-then-end-inside c =
    let a = c.args in
    let n = c.next_after-end.ensures in
    let e = c.if-end-inside.true in
    c.refuse_at.ensures
    ∙ sym
    (ap (λ (b : Bool). carried_if b a.list.now a.at) (sym c.is_exrs.ensures ∙ c.if-not-is_exrs.false)
    ∙ nothing-inside a.list.now a.at (omega arith))

pub inside_form-requires : goal.inside_form-requires
inside_form-requires c =
    let n = c.next_after-end.ensures in
    (omega (arith, long (goal.at.inside_form-requires c).Start), omega (arith, (there (goal.at.inside_form-requires c).Start).inside), c.requires.1)

pub returns : goal.returns
returns c =
    let a = c.args in
    let n = c.next_after-end.ensures in
    let e = c.if-end-inside.false in
    c.inside_form.ensures
    ∙ ap (λ (end : ℕ). form_from Exclude a.list.now end (a.at + 4)) n
    ∙ sym
    (ap (λ (b : Bool). carried_if b a.list.now a.at) (sym c.is_exrs.ensures ∙ c.if-not-is_exrs.false)
    ∙ some-inside a.list.now a.at (λ q. e (omega arith)))
