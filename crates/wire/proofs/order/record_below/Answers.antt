-- `wire::order::record_below` meets its contract. The loop's invariant: the words passed are the same, so what is left decides.
use mathlib.Core.Path.{◌≡◌, refl, sym, ap₂, ◌∙◌}
use Prim.Native.Nat.{ℕ, ◌+◌, ◌*◌, ◌-◌}
use native.Mathlib.Omega.{arith}
use lib.Dec.{ltb}
use Rattle.wire.proofs.Words.{word_differs, word_same, nothing_left}
use Rattle.wire.proofs.order.record_below.Goals as goal

pub returns-then-x-y : goal.returns-then-x-y
returns-then-x-y c =
    let a = c.args in
    let i = c.loop-i.i in
    ap₂ ltb c.u32_at-x.ensures c.u32_at-y.ensures
    ∙ sym
    (c.loop-i.invariant
    ∙ word_differs a.s.now (a.a + 4 * i) (a.b + 4 * i) (a.words - i) (λ (k : ℕ). (c.type_inv.s k).fits) (omega arith) (omega arith) (omega arith)
    (λ e. c.if-x-y.true (c.u32_at-x.ensures ∙ e ∙ sym c.u32_at-y.ensures)))

pub loop-i-preserved : goal.loop-i-preserved
loop-i-preserved c =
    let a = c.args in
    let i = c.loop-i.i in
    let left : a.words - i - 1 ≡ a.words - (i + 1) = omega arith in
    let x : a.a + 4 * i + 4 ≡ a.a + 4 * (i + 1) = omega arith in
    let y : a.b + 4 * i + 4 ≡ a.b + 4 * (i + 1) = omega arith in
    c.loop-i.invariant
    ∙ word_same a.s.now (a.a + 4 * i) (a.b + 4 * i) (a.words - i) (λ (k : ℕ). (c.type_inv.s k).fits) (omega arith) (omega arith) (omega arith)
    (sym c.u32_at-x.ensures ∙ c.if-x-y.false ∙ c.u32_at-y.ensures)
    ∙ (rw (left, x, y) refl)

pub returns : goal.returns
returns c =
    let a = c.args in
    let i = c.loop-i.i in
    sym (c.loop-i.invariant ∙ nothing_left a.s.now (a.a + 4 * i) (a.b + 4 * i) (a.words - i) (omega arith))
