-- `pcep_message::objects::objects_in` meets its contract. The loop's invariant is `Walked`; the measure is what is left of the message.
use native.Mathlib.Omega.{arith}
use mathlib.Core.Path.{◌≡◌, sym, subst, ◌∙◌}
use Rattle.std.proofs.Common.{rules}
use Rattle.std.specs.Prelude.{Err}
use Rattle.pcep_laws.proofs.Objects.{right_object}
use Rattle.pcep_message.specs.Walked.{ObjectIs, ObjectPassed, ObjectsAre}
use Rattle.pcep_message.proofs.Walked.{walk_refused, walk_ends, walk_notes, walk_skips}
use Rattle.pcep_message.proofs.objects.objects_in.Goals as goal
use Rattle.pcep_message.proofs.objects.objects_in.Goals.{In_ok-object}

-- the object at hand passes
passed : (c : In_ok-object) → let a = c.args in ObjectPassed a.kind a.message.now c.loop-at.at c.in_ok-object.object
passed c =
    let a = c.args in
    subst (ObjectIs a.kind a.message.now c.loop-at.at) c.in_ok-object.was c.object_at.ensures

pub returns-in_err-object : goal.returns-in_err-object
returns-in_err-object c =
    let a = c.args in
    let l = c.loop-at in
    let x = c.in_err-object.field-0.0 in
    let out : c.from_residual.result ≡ Err x = search rules in
    subst (ObjectsAre a.kind a.message.now) (sym out)
    (walk_refused a.kind a.message.now l.at l.met l.invariant c.loop-at-test.true x (subst (ObjectIs a.kind a.message.now l.at) c.in_err-object.was c.object_at.ensures))

pub loop-at-smaller-in-Some : goal.loop-at-smaller-in-Some
loop-at-smaller-in-Some c =
    let a = c.args in
    let o = passed (goal.at.loop-at-smaller-in-Some c).In_ok-object in
    let r = right_object a.kind a.message.now c.loop-at.at o.verdict in
    omega (arith, o.next-is, r.inside, r.long)

pub loop-at-smaller : goal.loop-at-smaller
loop-at-smaller c =
    let a = c.args in
    let o = passed (goal.at.loop-at-smaller c).In_ok-object in
    let r = right_object a.kind a.message.now c.loop-at.at o.verdict in
    omega (arith, o.next-is, r.inside, r.long)

pub loop-at-preserved-in-Some : goal.loop-at-preserved-in-Some
loop-at-preserved-in-Some c =
    let a = c.args in
    let l = c.loop-at in
    let o = passed (goal.at.loop-at-preserved-in-Some c).In_ok-object in
    let is = sym o.class-is ∙ c.in-Some.is in
    rw (o.next-is, c.wide-i.ensures.0)
    (walk_notes a.kind a.message.now l.at l.met l.invariant c.loop-at-test.true o.verdict c.in-Some.class is c.first_of.new.known (rw c.wide-i.ensures.0 at c.first_of.ensures))

pub loop-at-preserved : goal.loop-at-preserved
loop-at-preserved c =
    let a = c.args in
    let l = c.loop-at in
    let o = passed (goal.at.loop-at-preserved c).In_ok-object in
    rw o.next-is (walk_skips a.kind a.message.now l.at l.met l.invariant c.loop-at-test.true o.verdict (sym o.class-is ∙ c.in_default.is))

pub returns : goal.returns
returns c =
    let a = c.args in
    let l = c.loop-at in
    rw c.objects_met.ensures (walk_ends a.kind a.message.now l.at l.met l.invariant c.loop-at-test.false)
