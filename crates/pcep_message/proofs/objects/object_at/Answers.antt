-- `pcep_message::objects::object_at` meets its contract: the tests that led to each `return` are those of the check of an object (`Checks`).
use Prim.Native.Nat.{ℕ, ◌-◌}
use mathlib.Core.Path.{◌≡◌, refl, sym, ap, ◌∙◌}
use mathlib.Core.Bool.{true, false}
use lib.ListN.{length}
use native.Mathlib.Omega.{arith}
use Rattle.std.specs.Prelude.{Err, None, Some}
use Rattle.pcep_laws.specs.Firsts.{placed}
use Rattle.pcep_model.specs.Objects.{class_at, size_at}
use Rattle.pcep_message.specs.Known.{fits_known}
use Rattle.pcep_message.specs.Walked.{length_refused}
use Rattle.pcep_message.proofs.Checks.{least, short, wrong-length, size-left, wrong-size, demanded-refused, object-passes}
use Rattle.pcep_message.proofs.objects.object_at.Goals as goal
use Rattle.pcep_message.proofs.objects.object_at.Goals.{After-size_wrong, Else-size_wrong, After-fits}

-- the length is judged by what is left
sized : (c : After-size_wrong) → let a = c.args in c.size_wrong.result ≡ length_refused (size_at a.message.now a.at) (length a.message.now - a.at)
sized c = let a = c.args in c.size_wrong.ensures ∙ ap (λ (n : ℕ). length_refused n (length a.message.now - a.at)) c.u16_at-n.ensures

-- it is one that an object can have
right : (c : Else-size_wrong) → let a = c.args in length_refused (size_at a.message.now a.at) (length a.message.now - a.at) ≡ false
right c = sym (sized (goal.at.Else-size_wrong c).After-size_wrong) ∙ c.if-size_wrong.false

-- and then by what the object is
own : (c : After-fits) → let a = c.args in fits_known (class_at a.message.now a.at) c.in-Some.least (size_at a.message.now a.at) ≡ c.fits.result
own c = let a = c.args in ap (fits_known (class_at a.message.now a.at) c.in-Some.least) (sym c.u16_at-n.ensures) ∙ sym c.fits.ensures

pub returns-then-left-lt4 : goal.returns-then-left-lt4
returns-then-left-lt4 c = let a = c.args in short a.kind a.message.now a.at (omega arith) ∙ sym (ap Err c.new.ensures)

pub returns-then-size_wrong : goal.returns-then-size_wrong
returns-then-size_wrong c =
    let a = c.args in
    wrong-length a.kind a.message.now a.at (omega arith) (placed (least a.kind a.message.now a.at)) refl (sym (sized (goal.at.returns-then-size_wrong c).After-size_wrong) ∙ c.if-size_wrong.true)
    ∙ sym (ap Err c.new-then-size_wrong.ensures)

pub returns-then-not-fits : goal.returns-then-not-fits
returns-then-not-fits c =
    let a = c.args in
    let is = sym c.in-Some.is ∙ c.least_of.ensures in
    wrong-size a.kind a.message.now a.at (omega arith) (Some c.in-Some.least) is
    (size-left a.kind a.message.now a.at (omega arith) (Some c.in-Some.least) is (right (goal.at.returns-then-not-fits c).Else-size_wrong) false (own (goal.at.returns-then-not-fits c).After-fits ∙ c.if-not-fits.true))
    ∙ sym (ap Err c.new-then-not-fits.ensures)

pub returns-then-demanded : goal.returns-then-demanded
returns-then-demanded c =
    let a = c.args in
    let is = sym c.in-None.is ∙ c.least_of.ensures in
    demanded-refused a.kind a.message.now a.at (omega arith) None is
    (size-left a.kind a.message.now a.at (omega arith) None is (right (goal.at.returns-then-demanded c).Else-size_wrong) true refl)
    (sym c.demanded.ensures ∙ c.if-demanded.true)
    ∙ sym (ap Err c.new-then-demanded.ensures)

pub returns-else-not-fits : goal.returns-else-not-fits
returns-else-not-fits c =
    let a = c.args in
    let is = sym c.in-Some.is ∙ c.least_of.ensures in
    object-passes a.kind a.message.now a.at (omega arith) (Some c.in-Some.least) is
    (size-left a.kind a.message.now a.at (omega arith) (Some c.in-Some.least) is (right (goal.at.returns-else-not-fits c).Else-size_wrong) true (own (goal.at.returns-else-not-fits c).After-fits ∙ c.if-not-fits.false))
    refl c.u16_at-n.result c.u16_at-n.ensures

pub returns-else-demanded : goal.returns-else-demanded
returns-else-demanded c =
    let a = c.args in
    let is = sym c.in-None.is ∙ c.least_of.ensures in
    object-passes a.kind a.message.now a.at (omega arith) None is
    (size-left a.kind a.message.now a.at (omega arith) None is (right (goal.at.returns-else-demanded c).Else-size_wrong) true refl)
    (sym c.demanded.ensures ∙ c.if-demanded.false) c.u16_at-n.result c.u16_at-n.ensures
