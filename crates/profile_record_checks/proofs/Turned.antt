-- A loop that checks records in turn: those from record i on decide, since those before it passed. How it starts, goes on and ends.
use Rattle.std.specs.Prelude.{Err}
use Prim.Native.Nat.{ℕ, ◌+◌, ◌-◌, ◌≤◌, ◌<◌}
use native.Mathlib.Nat.{sub-zero}
use native.Mathlib.Omega.{arith}
use mathlib.Core.Path.{◌≡◌, sym, ap, subst, ◌∙◌}
use Rattle.model.specs.declared.Refusal.{Refusal}
use Rattle.model.specs.Verdict.{Verdict, Pass, in_turn}
use Rattle.laws.proofs.Turns.{turn_passed, turn_refused, in_turn_none, in_turn_skip}

pub record Turned (check : ℕ → Verdict) (n i : ℕ) : Type 0 where
  pub within : i ≤ n
  pub rest : in_turn check 0 n ≡ in_turn check i (n - i)

pub start : (check : ℕ → Verdict) (n : ℕ) → Turned check n 0
start check n = record { within = omega arith; rest = ap (in_turn check 0) (sym (sub-zero n)) }

module _ {check : ℕ → Verdict} {n i : ℕ} (t : Turned check n i) where
  pub passed : i < n → check i ≡ Pass → Turned check n (i + 1)
  passed h e = record { within = omega arith; rest = t.rest ∙ turn_passed check i n h e }

  -- several at once
  pub passed_to : {j : ℕ} → i ≤ j → j ≤ n → ((k : ℕ) → i ≤ k → k < j → check k ≡ Pass) → Turned check n j
  passed_to {j} h m e =
      let whole : n - i ≡ (j - i) + (n - j) = omega arith in
      let there : i + (j - i) ≡ j = omega arith in
      record {
        within = m;
        rest = t.rest ∙ ap (in_turn check i) whole ∙ in_turn_skip check i (j - i) (n - j) (λ k p q. e k p (omega arith)) ∙ ap (λ (x : ℕ). in_turn check x (n - j)) there;
      }

  -- the verdict on the m records that the file is said to have
  module _ {m : ℕ} (all : n ≡ m) where
    pub refused : {r : Refusal} → i < n → check i ≡ Err r → Err r ≡ in_turn check 0 m
    refused {r} h e = subst (λ (k : ℕ). Err r ≡ in_turn check 0 k) all (sym (t.rest ∙ turn_refused check i n r h e))

    pub ended : n ≤ i → Pass ≡ in_turn check 0 m
    ended h = subst (λ (k : ℕ). Pass ≡ in_turn check 0 k) all (sym (t.rest ∙ in_turn_none check i n h))
