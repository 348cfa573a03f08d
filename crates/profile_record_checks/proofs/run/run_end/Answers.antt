-- `profile_record_checks::run::run_end` meets its contract. The loop's invariant: every record up to the one before `i` passed, and the code holds the start and the first words of that one
-- (`Running`).
use Rattle.profile_record_checks.proofs.Runs.{fields-inside, running_start, next_inside, running_next, running_end}
use Rattle.profile_records.proofs.Fields.{hop-within}
use Rattle.profile_records.specs.Layout.{layout_of}
use Prim.Native.Nat.{ℕ}
use mathlib.Core.Path.{◌≡◌, subst}
use Rattle.profile_record_checks.specs.Run.{RunTo}
use native.Mathlib.Omega.{arith}
use Rattle.profile_record_checks.proofs.run.run_end.Goals as goal

pub class_of-class-requires : goal.class_of-class-requires
class_of-class-requires c = omega (arith, c.requires.hops_within.0.inside)

pub hop_start-at-requires : goal.hop_start-at-requires
hop_start-at-requires c =
    let a = c.args in
    hop-within (layout_of a.layout) a.s.now a.first a.hops c.requires.hops_within.0 c.requires.hops_within.1

pub key_at-before-requires : goal.key_at-before-requires
key_at-before-requires c =
    let a = c.args in
    omega (arith, c.hop_start-at.ensures, fields-inside (layout_of a.layout) a.s.now a.first a.hops c.requires.hops_within.0 c.requires.hops_within.1)

pub loop-i-init : goal.loop-i-init
loop-i-init c =
    let a = c.args in
    running_start (layout_of a.layout) a.s.now a.first a.hops _ _ _ _ c.requires.hops_within.1 c.requires.first_value c.hop_start-at.ensures
    c.key_at-before.ensures.0 c.key_at-before.ensures.1 c.key_at-before.ensures.2

pub overflow_add-at-in-loop-i : goal.overflow_add-at-in-loop-i
overflow_add-at-in-loop-i c = omega (arith, next_inside (λ (k : ℕ). (c.type_inv.s k).fits) c.loop-i.invariant c.requires.hops_within.0 (omega arith), c.requires.hops_within.0.layout.fields)

pub goes_on-requires : goal.goes_on-requires
goes_on-requires c = (c.requires.hops_within.0.layout, next_inside (λ (k : ℕ). (c.type_inv.s k).fits) c.loop-i.invariant c.requires.hops_within.0 (omega arith))

pub returns-then-not-goes_on : goal.returns-then-not-goes_on
returns-then-not-goes_on c = running_end (λ (k : ℕ). (c.type_inv.s k).fits) c.loop-i.invariant

pub overflow_add-at : goal.overflow_add-at
overflow_add-at c = omega (arith, next_inside (λ (k : ℕ). (c.type_inv.s k).fits) c.loop-i.invariant c.requires.hops_within.0 (omega arith), c.requires.hops_within.0.layout.fields)

pub u32_at-requires : goal.u32_at-requires
u32_at-requires c = omega (arith, next_inside (λ (k : ℕ). (c.type_inv.s k).fits) c.loop-i.invariant c.requires.hops_within.0 (omega arith), c.requires.hops_within.0.layout.fields)

pub loop-i-preserved : goal.loop-i-preserved
loop-i-preserved c =
    let l = c.loop-i in
    running_next (λ (k : ℕ). (c.type_inv.s k).fits) l.invariant c.loop-i-test.true _ _ c.class_of-class.ensures
    (c.goes_on.ensures c.if-not-goes_on.false) c.u32_at.ensures

pub returns : goal.returns
returns c =
    let a = c.args in
    let l = c.loop-i in
    let all : l.i ≡ a.hops = omega arith in
    subst (RunTo (layout_of a.layout) a.s.now a.first a.hops) all (running_end (λ (k : ℕ). (c.type_inv.s k).fits) l.invariant)
