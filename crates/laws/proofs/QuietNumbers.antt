-- What is said of an answer's numbers: on any answer but 0 every number but the place is 0, on 0, 1 and 2 the place too.
use Prim.Native.Nat.{ℕ, suc, ◌≤◌}
use mathlib.Core.Path.{◌≡◌}
use mathlib.Core.Logic.{◌⊎◌}
use lib.ListN.{get_or}
use Rattle.model.specs.Answers.{Numbers}

pub record QuietNumbers (most : ℕ) (n : Numbers) : Type 0 where
  pub known : (n.answer ≤ 2) ⊎ ((10 ≤ n.answer) × (n.answer ≤ most))
  pub others : (n.answer ≡ 0 → ⊥) → (i : ℕ) → get_or n.others (suc i) 0 ≡ 0
  pub place : n.answer ≤ 2 → get_or n.others 0 0 ≡ 0
