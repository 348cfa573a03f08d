-- Checks one after the other (`model`'s Verdict): when they all pass, which refusal is the answer, and how the checks of n records split at record i.
-- By cases on a verdict and recursion on the number of records.
use Rattle.std.specs.Prelude.{Ok, Err}
use Prim.Native.Nat.{ℕ, zero, suc, ◌+◌, ◌-◌, ◌≤◌, ◌<◌}
use native.Mathlib.Nat.{add-zero, zero-add, add-suc, suc-add, eq-or-lt_of_le}
use native.Mathlib.Numerals.{add-one}
use native.Mathlib.Omega.{arith}
use mathlib.Core.Path.{◌≡◌, refl, sym, ap, ◌∙◌}
use mathlib.Core.Logic.{◌↔◌, ⊎_elim}
use mathlib.Core.Bool.{Bool, true, false}
use Rattle.model.specs.declared.Refusal.{Refusal}
use Rattle.model.specs.Verdict.{Verdict, Pass, refuse_if, ◌and_then◌, in_turn}

pub refuse_not_pass : (r : Refusal) → Err r ≡ Pass → ⊥
refuse_not_pass r e = let z : ◌≡◌ {A = ℕ} 0 1 = cc in omega arith

-- a refusal by a test passes exactly when the test fails
pub refuse_if_pass : (b : Bool) (n p : ℕ) → (refuse_if b n p ≡ Pass) ↔ (b ≡ false)
refuse_if_pass true n p = (λ e. absurd (refuse_not_pass _ e), λ e. cc)
refuse_if_pass false n p = (λ e. refl, λ e. refl)

-- two checks pass exactly when both do
pub and_then_pass : (a b : Verdict) → (a and_then b ≡ Pass) ↔ ((a ≡ Pass) × (b ≡ Pass))
and_then_pass (Ok _) b = (λ e. (refl, e), λ e. e.1)
and_then_pass (Err r) b = (λ e. absurd (refuse_not_pass r e), λ e. e.0)

-- the first check passes and leaves the second, or gives the answer
pub passed_first : (a b : Verdict) → a ≡ Pass → a and_then b ≡ b
passed_first a b e = ap (λ (v : Verdict). v and_then b) e

pub refused_first : (a b : Verdict) (r : Refusal) → a ≡ Err r → a and_then b ≡ Err r
refused_first a b r e = ap (λ (v : Verdict). v and_then b) e

-- nothing more to check
pub and_then-nothing : (v : Verdict) → v and_then Pass ≡ v
and_then-nothing (Ok _) = refl
and_then-nothing (Err r) = refl

-- a check and then a refusal by a test
pub and_then-refuse_if : (v : Verdict) (b : Bool) (n p : ℕ) → (v and_then refuse_if b n p ≡ Pass) ↔ ((v ≡ Pass) × (b ≡ false))
and_then-refuse_if (Ok _) b n p = (λ e. (refl, (refuse_if_pass b n p).0 e), λ e. (refuse_if_pass b n p).1 e.1)
and_then-refuse_if (Err r) b n p = (λ e. absurd (refuse_not_pass r e), λ e. e.0)

module _ (check : ℕ → Verdict) where
  -- the first of the records, and then the others
  pub in_turn_step : (i n : ℕ) → in_turn check i (suc n) ≡ check i and_then in_turn check (suc i) n
  unfolding in_turn
  in_turn_step i n = refl

  -- as a loop meets it: records i up to n, where some are left
  pub in_turn_next : (i n : ℕ) → i < n → in_turn check i (n - i) ≡ check i and_then in_turn check (suc i) (n - suc i)
  in_turn_next i n h =
      let left : n - i ≡ suc (n - suc i) = omega arith in
      ap (in_turn check i) left ∙ in_turn_step i (n - suc i)

  -- and where none is
  pub in_turn_none : (i n : ℕ) → n ≤ i → in_turn check i (n - i) ≡ Pass
  unfolding in_turn
  in_turn_none i n h = let left : n - i ≡ 0 = omega arith in ap (in_turn check i) left

  -- records that pass may be left out
  pub in_turn_skip : (i m n : ℕ) → ((j : ℕ) → i ≤ j → j < i + m → check j ≡ Pass) → in_turn check i (m + n) ≡ in_turn check (i + m) n
  unfolding in_turn
  in_turn_skip i zero n h = rw (zero-add, add-zero)
  in_turn_skip i (suc m) n h =
      rw (suc-add m n, h i (omega arith) (omega arith), add-suc i m, ← suc-add i m)
      (in_turn_skip (suc i) m n (λ j p q. h j (omega arith) (omega arith)))

  in_turn_each : (i n : ℕ) → in_turn check i n ≡ Pass → (j : ℕ) → i ≤ j → j < i + n → check j ≡ Pass
  unfolding in_turn
  in_turn_each i zero e j p q = absurd (omega arith)
  in_turn_each i (suc n) e j p q =
      let both = (and_then_pass (check i) (in_turn check (suc i) n)).0 e in
      let later = in_turn_each (suc i) n both.1 j in
      ⊎_elim (λ (same : i ≡ j). ap check (sym same) ∙ both.0) (λ (less : i < j). later less (omega arith)) (eq-or-lt_of_le p)

  -- checks in turn pass exactly when each does
  pub in_turn_pass : (i n : ℕ) → (in_turn check i n ≡ Pass) ↔ ((j : ℕ) → i ≤ j → j < i + n → check j ≡ Pass)
  unfolding in_turn
  in_turn_pass i n = (in_turn_each i n, λ h. ap (in_turn check i) (sym (add-zero n)) ∙ in_turn_skip i n 0 h)

  pub in_turn_pass_all : (n : ℕ) → (in_turn check 0 n ≡ Pass) ↔ ((j : ℕ) → j < n → check j ≡ Pass)
  in_turn_pass_all n = (λ e j q. in_turn_each 0 n e j (omega arith) (omega arith), λ h. (in_turn_pass 0 n).1 (λ j p q. h j (omega arith)))

-- the step of a loop: the record whose turn it is passes, or is refused
pub turn_passed : (check : ℕ → Verdict) (i n : ℕ) → i < n → check i ≡ Pass → in_turn check i (n - i) ≡ in_turn check (i + 1) (n - (i + 1))
turn_passed check i n h e = in_turn_next check i n h ∙ ap (λ (v : Verdict). v and_then in_turn check (suc i) (n - suc i)) e ∙ (rw add-one refl)

pub turn_refused : (check : ℕ → Verdict) (i n : ℕ) (r : Refusal) → i < n → check i ≡ Err r → in_turn check i (n - i) ≡ Err r
turn_refused check i n r h e = in_turn_next check i n h ∙ ap (λ (v : Verdict). v and_then in_turn check (suc i) (n - suc i)) e
