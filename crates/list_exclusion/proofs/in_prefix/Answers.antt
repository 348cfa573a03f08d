-- `list_exclusion::in_prefix` meets its contract: a shift to the right is a division by the power of two, and a whole address has nothing to shift.
use Prim.Native.Nat.{ℕ, ◌-◌, ◌/◌, ◌^◌}
use native.Mathlib.Omega.{arith}
use mathlib.Core.Path.{◌≡◌, sym, ap, ap₂, ◌∙◌}
use lib.Dec.{eqb}
use Rattle.laws.proofs.Different.{eqb_sym}
use Rattle.list_exclusion.proofs.in_prefix.Goals as goal

pub returns-then-bits-eq32 : goal.returns-then-bits-eq32
returns-then-bits-eq32 c =
    let a = c.args in
    let same : (x : ℕ) → x ≡ x / 1 = λ x. omega arith in
    c.eq.ensures ∙ eqb_sym a.address.0 a.node.0 ∙ ap₂ eqb (same a.node.0) (same a.address.0)
    ∙ ap (λ (n : ℕ). eqb (a.node.0 / 2 ^ (32 - n)) (a.address.0 / 2 ^ (32 - n))) (sym c.if-bits-eq32.true)

pub returns : goal.returns
returns c =
    let a = c.args in
    ap (λ (n : ℕ). eqb (a.node.0 / 2 ^ n) (a.address.0 / 2 ^ n)) c.bits_after-after.ensures.0
