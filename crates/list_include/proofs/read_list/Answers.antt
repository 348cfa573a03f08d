-- `list_include::read_list` meets its contract. The loop's invariant: the rest of the list, read from the state at hand, means what the whole list means. The measure is what is left of the list.
use mathlib.Core.Path.{◌≡◌, refl, sym, ap, subst, ◌∙◌}
use Prim.Native.Nat.{ℕ, ◌+◌}
use native.Mathlib.Omega.{arith}
use lib.ListN.{length}
use borrow.Author.Rules.{rules}
use Rattle.std.specs.Prelude.{Result, Err}
use Rattle.model.specs.Verdict.{Verdict, Pass}
use Rattle.model.specs.declared.Refusal.{Refusal}
use Rattle.list_include.specs.declared.state.State.{State}
use Rattle.model.specs.declared.ListKind.TheVariants.{Include}
use Rattle.model.specs.Request.{reading_input}
use Rattle.model.specs.Sequence as M
use Rattle.laws.specs.Left.{form_left, subobjects_left}
use Rattle.laws.proofs.Walk.{form-whole, right_here, right_next}
use Rattle.model.specs.Subobject.{subobject_verdict, subobject_at, length_at}
use Rattle.list_subobject.specs.Items.{ItemAt}
use Rattle.list_include.specs.Reading.{stepped as left, read_of, subobject_of, state_stops, state_of, Placed, Standing, MeaningIs}
use Rattle.list_subobject.proofs.FormLaws.{readable}
use Rattle.list_include.proofs.States.{step-refused}
use Rattle.list_include.proofs.Includes.{read_here, read-passed, read-refused, read-end, read-start}
use Rattle.list_include.proofs.read_list.Goals as goal
use Rattle.list_include.proofs.read_list.Goals.{After-read_item, After-subobject_at-item, At-loop-at, In-loop-at}

-- what the whole list means is what its rest means, read from the state at hand
meant
    : (c : At-loop-at)
    → M.read_all (reading_input c.args.profile.now) (subobjects_left c.args.list.now c.loop-at.at) (state_of c.args.list.now c.loop-at.at c.loop-at.st)
    ≡ M.meaning (reading_input c.args.profile.now) c.args.ingress.0 c.args.list.now
meant c =
    let a = c.args in
    c.loop-at.invariant.3 ∙ read-start (reading_input a.profile.now) a.list.now a.ingress.0 (state_of a.list.now 0 c.start-st.result) (c.start-st.ensures a.list.now).means

-- what is known in a turn: the subobject is right, and the step taken is the one of `read_one`
here : (c : In-loop-at) → let s = c.args.list.now in subobject_verdict Include s (length s) c.loop-at.at ≡ Pass
here c = right_here Include c.args.list.now _ c.loop-at.at c.loop-at-test.true c.loop-at.invariant.2

item-is : (c : After-subobject_at-item) → ItemAt c.args.list.now c.loop-at.at c.subobject_at-item.result
item-is c = c.subobject_at-item.ensures

stepped
    : (c : After-read_item)
    → read_of (state_of c.args.list.now c.subobject_at-item.result.next) (left c.read_item.result c.read_item.new.st)
    ≡ M.read_one (reading_input c.args.profile.now) (state_of c.args.list.now c.loop-at.at c.loop-at.st) (subobject_at c.args.list.now c.loop-at.at)
    (M.area_next (subobjects_left c.args.list.now (c.loop-at.at + length_at c.args.list.now c.loop-at.at)))
stepped c =
    let is = item-is (goal.at.After-read_item c).After-subobject_at-item in
    c.read_item.ensures.means
    ∙ ap (λ (o : ℕ). M.read_one (reading_input c.args.profile.now) (state_of c.args.list.now o c.loop-at.st) (subobject_of c.args.list.now c.subobject_at-item.result) c.area_at-follows.result) is.offset
    ∙ read_here (reading_input c.args.profile.now) c.args.list.now c.loop-at.at (state_of c.args.list.now c.loop-at.at c.loop-at.st) c.subobject_at-item.result c.area_at-follows.result is c.area_at-follows.ensures

pub loop-at-init : goal.loop-at-init
loop-at-init c =
    let a = c.args in (
      omega arith,
      (c.start-st.ensures a.list.now).sound,
      form-whole Include a.list.now ∙ c.requires.list_len_bound.1,
      refl,
      (c.start-st.ensures a.list.now).standing,
    )

pub subobject_at-item-requires : goal.subobject_at-item-requires
subobject_at-item-requires c = readable Include c.args.list.now _ c.loop-at.at (omega arith) (here (goal.at.subobject_at-item-requires c).In-loop-at)

pub read_item-requires-clause-item_here : goal.read_item-requires-clause-item_here
read_item-requires-clause-item_here c =
    let is = item-is (goal.at.read_item-requires-clause-item_here c).After-subobject_at-item in
    let off = is.offset in
    let l = c.loop-at in
    let s = c.args.list.now in (
      record {
        right = subst (λ (o : ℕ). subobject_verdict Include s (length s) o ≡ Pass) (sym off) (here (goal.at.read_item-requires-clause-item_here c).In-loop-at);
        there = subst (λ (o : ℕ). ItemAt s o c.subobject_at-item.result) (sym off) is;
      },
      subst (λ (o : ℕ). Standing s o l.st) (sym off) l.invariant.4,
    )

pub returns-in_err-read_item : goal.returns-in_err-read_item
returns-in_err-read_item c =
    let a = c.args in
    let l = c.loop-at in
    let x = c.in_err-read_item.field-0.0 in
    let same : c.from_residual.result ≡ Err x = search rules in
    subst (λ (r : Result State Refusal). MeaningIs a.list.now r (M.meaning (reading_input a.profile.now) a.ingress.0 a.list.now)) (sym same)
    (step-refused (Placed a.list.now) (state_stops a.list.now) x _
    (sym (meant (goal.at.returns-in_err-read_item c).At-loop-at)
    ∙ read-refused (reading_input a.profile.now) a.list.now l.at (state_of a.list.now l.at l.st) c.loop-at-test.true l.invariant.2 x
    (sym (ap (λ (v : Verdict). read_of (state_of a.list.now c.subobject_at-item.result.next) (left v c.read_item.new.st)) c.in_err-read_item.was) ∙ stepped (goal.at.returns-in_err-read_item c).After-read_item)))

pub loop-at-preserved : goal.loop-at-preserved
loop-at-preserved c =
    let a = c.args in
    let l = c.loop-at in
    let is = item-is (goal.at.loop-at-preserved c).After-subobject_at-item in
    let inside = is.inside in
    let R = reading_input a.profile.now in
    let s = a.list.now in
    let next = c.subobject_at-item.result.next in
    let on : M.good (state_of s next c.read_item.new.st) ≡ M.read_one R (state_of s l.at l.st) (subobject_at s l.at) (M.area_next (subobjects_left s (l.at + length_at s l.at))) =
    sym (ap (λ (v : Verdict). read_of (state_of s next) (left v c.read_item.new.st)) c.in_ok-read_item.was) ∙ stepped (goal.at.loop-at-preserved c).After-read_item in
    let kept = c.read_item.ensures.sound c.read_item.new.st (ap (λ (v : Verdict). left v c.read_item.new.st) c.in_ok-read_item.was) in (
      inside,
      kept.0,
      subst (λ (n : ℕ). form_left Include s n ≡ Pass) (sym is.next) (right_next Include s (length s) l.at c.loop-at-test.true l.invariant.2),
      ap (λ (n : ℕ). M.read_all R (subobjects_left s n) (state_of s next c.read_item.new.st)) is.next
          ∙ sym (read-passed R s l.at (state_of s l.at l.st) c.loop-at-test.true l.invariant.2 _ on)
          ∙ l.invariant.3,
      kept.1,
    )

pub returns : goal.returns
returns c =
    let a = c.args in
    let l = c.loop-at in
    subst (MeaningIs a.list.now c.finished.result)
    (read-end (reading_input a.profile.now) a.list.now l.at (state_of a.list.now l.at l.st) c.loop-at-test.false ∙ meant (goal.at.returns c).At-loop-at)
    (c.finished.ensures a.list.now l.at l.invariant.4)
