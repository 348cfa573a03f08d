-- `list_form::each` meets its contract: the subobject at hand is refused, or what is left after it decides.
use Prim.Native.Nat.{ℕ, ◌<◌}
use mathlib.Core.Path.{◌≡◌, refl, sym, ap, ◌∙◌}
use mathlib.Core.List.{List}
use native.Mathlib.Omega.{arith}
use borrow.Author.Rules.{rules}
use Rattle.model.specs.Verdict.{Pass}
use Rattle.model.specs.declared.ListKind.{ListKind}
use Rattle.model.specs.Subobject.{after_subobject, form_from, subobject_verdict}
use Rattle.laws.proofs.Walk.{right_subobject, form-end, form-refused, form_next}
use Rattle.list_subobject.proofs.FormLaws.{readable}
use Rattle.list_form.proofs.each.Goals as goal

-- past a subobject of right form
next_same
    : (k : ListKind) (s : List ℕ) (end from at next : ℕ)
    → at < end → subobject_verdict k s end at ≡ Pass → next ≡ after_subobject s at
    → form_from k s end at ≡ form_from k s end from → form_from k s end next ≡ form_from k s end from
next_same k s end from at next h e n same = ap (form_from k s end) n ∙ sym (form_next k s end at h e) ∙ same

pub loop-at-init : goal.loop-at-init
loop-at-init g c = record { reached = c.requires.inside.0; same = λ k h. refl }

pub returns-in_err-check : goal.returns-in_err-check
returns-in_err-check g c =
    let a = c.args in
    let l = c.loop-at in
    λ k h.
    let e = form-refused k a.list.now a.end l.at c.loop-at-test.true _ (sym (h l.at c.check.result c.loop-at-test.true c.check.ensures) ∙ c.in_err-check.was) in
    let i = l.invariant.same k h in
    search rules

pub next_after-at-requires : goal.next_after-at-requires
next_after-at-requires g c =
    let a = c.args in
    readable c.requires.checks.0 a.list.now a.end c.loop-at.at c.requires.inside.1
    (sym (c.requires.checks.1 c.loop-at.at c.check.result c.loop-at-test.true c.check.ensures) ∙ c.in_ok-check.was)

pub loop-at-smaller : goal.loop-at-smaller
loop-at-smaller g c =
    let a = c.args in
    let r = right_subobject c.requires.checks.0 a.list.now a.end c.loop-at.at (sym (c.requires.checks.1 c.loop-at.at c.check.result c.loop-at-test.true c.check.ensures) ∙ c.in_ok-check.was) in
    let n = c.next_after-at.ensures in
    omega (arith, r.whole, r.long)

pub loop-at-preserved : goal.loop-at-preserved
loop-at-preserved g c =
    let a = c.args in
    let s = a.list.now in
    let l = c.loop-at in
    let n = c.next_after-at.ensures in
    let r = right_subobject c.requires.checks.0 s a.end l.at (sym (c.requires.checks.1 l.at c.check.result c.loop-at-test.true c.check.ensures) ∙ c.in_ok-check.was) in
    record {
      reached = omega (arith, r.whole);
      same = λ k h.
          next_same k s a.end a.from l.at c.next_after-at.result c.loop-at-test.true (sym (h l.at c.check.result c.loop-at-test.true c.check.ensures) ∙ c.in_ok-check.was) n
          (l.invariant.same k h);
    }

pub returns : goal.returns
returns g c =
    let a = c.args in
    let l = c.loop-at in
    λ k h. sym (form-end k a.list.now a.end l.at c.loop-at-test.false) ∙ l.invariant.same k h
