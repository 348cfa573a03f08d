-- `pcep_ero::step_right` meets its contract: type 1 with L clear, length 8 and prefix length 32, inside the body, is right.
use Prim.Native.Nat.{ℕ, ◌%◌}
use mathlib.Core.Path.{sym, ap, ◌∙◌}
use native.Mathlib.Omega.{arith}
use lib.ListN.{get_or}
use borrow.Author.Tests.{eqb-true, ne_eqb}
use Rattle.laws.proofs.Tests.{clash}
use Rattle.pcep_ero.proofs.Steps.{right}
use Rattle.pcep_ero.proofs.step_right.Goals as goal
use Rattle.pcep_ero.proofs.step_right.Goals.{then-body-at-eq1, else-body-at-eq1}

pub returns-then-body-at-eq8 : goal.returns-then-body-at-eq8
returns-then-body-at-eq8 c =
    let a = c.args in
    λ e.
    elim c.if-body-at-eq1.branch [
      | then-body-at-eq1 w ↦ let one = w.if-body-at-eq1.true in right a.body.now a.at (omega (arith, c.requires)) (ap (λ (x : ℕ). x % 128) one) (omega (arith, one)) (eqb-true _ 8 (sym w.value-is ∙ c.if-body-at-eq8.true)) c.requires (eqb-true _ 32 e)
      | else-body-at-eq1 w ↦ absurd (clash c.if-body-at-eq8.true (w.value-is ∙ ne_eqb (get_or a.body.now a.at 0) 1 w.if-body-at-eq1.false))
    ]
