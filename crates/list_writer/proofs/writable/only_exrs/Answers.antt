-- `list_writer::writable::only_exrs` meets its contract. The loop's invariant: what is left from the offset on has right form, and is only EXRS just when all is. The
-- measure is what is left.
use mathlib.Core.Path.{◌≡◌, refl, sym, ap, ◌∙◌}
use native.Mathlib.Omega.{arith}
use lib.ListN.{length}
use Rattle.model.specs.Verdict.{Pass}
use Rattle.model.specs.declared.ListKind.TheVariants.{Include}
use Rattle.model.specs.Subobject.{form_verdict, form_from, subobjects, subobject_verdict}
use Rattle.laws.proofs.Walk.{right_subobject, right_here, right_next}
use Rattle.laws.proofs.WrittenSizes.{only_exrs, only_not, only_next, only_end}
use Rattle.list_subobject.proofs.FormLaws.{readable}
use Rattle.list_writer.proofs.writable.only_exrs.Goals as goal
use Rattle.list_writer.proofs.writable.only_exrs.Goals.{Else-bytes-at}

-- the subobject at hand passes
right : (c : Else-bytes-at) → subobject_verdict Include c.args.bytes.now (length c.args.bytes.now) c.loop-at.at ≡ Pass
right c = right_here Include c.args.bytes.now (length c.args.bytes.now) c.loop-at.at c.loop-at-test.true c.loop-at.invariant.1

pub loop-at-init : goal.loop-at-init
unfolding form_verdict
loop-at-init c = (omega arith, c.requires, refl)

pub returns-then-bytes-at : goal.returns-then-bytes-at
unfolding subobjects
returns-then-bytes-at c = sym (only_not c.args.bytes.now c.loop-at.at c.loop-at-test.true c.loop-at.invariant.1 c.if-bytes-at.true) ∙ c.loop-at.invariant.2

pub next_after-at-requires : goal.next_after-at-requires
next_after-at-requires c = readable Include c.args.bytes.now (length c.args.bytes.now) c.loop-at.at (omega arith) (right (goal.at.next_after-at-requires c).Else-bytes-at)

pub loop-at-smaller : goal.loop-at-smaller
loop-at-smaller c =
    let r = right_subobject Include c.args.bytes.now (length c.args.bytes.now) c.loop-at.at (right (goal.at.loop-at-smaller c).Else-bytes-at) in
    let n = c.next_after-at.ensures in
    omega (arith, r.whole, r.long)

pub loop-at-preserved : goal.loop-at-preserved
loop-at-preserved c =
    let s = c.args.bytes.now in
    let l = c.loop-at in
    let h = c.loop-at-test.true in
    let n = c.next_after-at.ensures in
    let r = right_subobject Include s (length s) l.at (right (goal.at.loop-at-preserved c).Else-bytes-at) in
    (omega (arith, r.whole), ap (form_from Include s (length s)) n ∙ right_next Include s (length s) l.at h l.invariant.1, ap (only_exrs s) n ∙ sym (only_next s l.at h l.invariant.1 c.if-bytes-at.false) ∙ l.invariant.2)

pub returns : goal.returns
unfolding subobjects
returns c = sym (only_end c.args.bytes.now c.loop-at.at (omega arith)) ∙ c.loop-at.invariant.2
