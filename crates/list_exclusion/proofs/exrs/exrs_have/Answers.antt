-- `list_exclusion::exrs::exrs_have` meets its contract: the subobject at hand decides, or what is left after it does.
use mathlib.Core.Path.{refl, sym, ◌∙◌}
use native.Mathlib.Omega.{arith}
use lib.ListN.{length}
use Rattle.model.specs.declared.ListKind.TheVariants.{Include}
use Rattle.laws.proofs.Forms.{later_end}
use Rattle.laws.proofs.Walk.{right_subobject}
use Rattle.list_exclusion.proofs.OnePass.{none_left, right_there, readable_there, hit, miss_to}
use Rattle.list_exclusion.proofs.Carried.{carries, nothing, stretch_has}
use Rattle.list_exclusion.proofs.exrs.exrs_have.Goals as goal

pub next_after-next-requires : goal.next_after-next-requires
next_after-next-requires g c =
    let a = c.args in
    readable_there nothing Include a.list.now a.to a.from c.loop-at.at c.loop-at.invariant.right c.loop-at-test.true c.requires.stretch.inside

pub found_at-requires-clause-right : goal.found_at-requires-clause-right
found_at-requires-clause-right g c =
    let a = c.args in
    let s = a.list.now in
    let l = c.loop-at in (
      later_end Include s a.to (length s) l.at c.requires.stretch.inside (right_there nothing Include s a.to a.from l.at l.invariant.right c.loop-at-test.true),
      c.next_after-next.ensures,
    )

pub returns-then-found_at : goal.returns-then-found_at
returns-then-found_at g c =
    let a = c.args in
    let s = a.list.now in
    let l = c.loop-at in
    λ q h.
    hit (carries q) Include s a.to a.from l.at (l.invariant.left q h) c.loop-at-test.true (sym (c.found_at.ensures q h) ∙ c.if-found_at.true)
    ∙ stretch_has q s a.from a.to

pub loop-at-smaller : goal.loop-at-smaller
loop-at-smaller g c =
    let a = c.args in
    let l = c.loop-at in
    let r = right_subobject Include a.list.now a.to l.at (right_there nothing Include a.list.now a.to a.from l.at l.invariant.right c.loop-at-test.true) in
    let n = c.next_after-next.ensures in
    omega (arith, r.long, r.whole)

pub loop-at-preserved : goal.loop-at-preserved
loop-at-preserved g c =
    let a = c.args in
    let s = a.list.now in
    let l = c.loop-at in
    record {
      right = miss_to nothing Include s a.to a.from l.at l.invariant.right c.loop-at-test.true c.next_after-next.result c.next_after-next.ensures refl;
      left = λ q h.
          miss_to (carries q) Include s a.to a.from l.at (l.invariant.left q h) c.loop-at-test.true c.next_after-next.result c.next_after-next.ensures
          (sym (c.found_at.ensures q h) ∙ c.if-found_at.false);
    }

pub returns : goal.returns
returns g c =
    let a = c.args in
    λ q h.
    none_left (carries q) Include a.list.now a.to a.from c.loop-at.at (c.loop-at.invariant.left q h) c.loop-at-test.false
    ∙ stretch_has q a.list.now a.from a.to
