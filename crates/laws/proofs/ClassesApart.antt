-- `classes_apart`: in an accepted profile of class 0 every AS and every node lies in the reserved ranges; of class 1, none does; so a profile
-- that has both is refused (`mixed_refused`). From the check of each record.
use Prim.Native.Nat.{ℕ, zero, suc, ◌≤◌, ◌<◌}
use native.Mathlib.Omega.{arith}
use mathlib.Core.Path.{◌≡◌, refl, sym, subst, ◌∙◌}
use mathlib.Core.Logic.{◌⊎◌, inl, inr, ⊎_elim}
use mathlib.Core.Bool.{Bool, true, false, true≢false}
use mathlib.Core.List.{List}
use borrow.Author.Tests.{not-false}
use Rattle.model.specs.Verdict.{Pass}
use Rattle.model.specs.Reserved.{Range, as_ranges, address_ranges, in_ranges, misplaced}
use Rattle.model.specs.Profile.{Layout, class_of, domain_count, hop_count, domain_at, hop_at, profile_verdict}
use Rattle.laws.proofs.Accepted.{accepted}
pub use Rattle.laws.proofs.Classes.{Reserved, ClassesApart}

placed_test : (c : ℕ) (rs : List Range) (x : ℕ) → c ≡ 0 → misplaced c rs x ≡ false → in_ranges rs x ≡ true
unfolding misplaced
placed_test c rs x e f = not-false _ (subst (λ (k : ℕ). misplaced k rs x ≡ false) e f)

placed-live : (c : ℕ) (rs : List Range) (x : ℕ) → c ≡ 1 → misplaced c rs x ≡ false → in_ranges rs x ≡ false
unfolding misplaced
placed-live c rs x e f = subst (λ (k : ℕ). misplaced k rs x ≡ false) e f

zero_or_one : (c : ℕ) → c ≤ 1 → (c ≡ 0) ⊎ (c ≡ 1)
zero_or_one zero h = inl refl
zero_or_one (suc c) h = inr (omega arith)

pub classes_apart : (L : Layout) (s : List ℕ) → profile_verdict L s ≡ Pass → ClassesApart L s
classes_apart L s e =
    let a = accepted L s e in
    record {
      classes = zero_or_one (class_of s) a.class_in_range;
      test = λ c. record {
        asn = λ i h. placed_test (class_of s) as_ranges _ c (a.domain i h).as_placed;
        tail = λ i h. placed_test (class_of s) address_ranges _ c (a.hop i h).tail_placed;
        head = λ i h. placed_test (class_of s) address_ranges _ c (a.hop i h).head_placed;
      };
      live = λ c. record {
        asn = λ i h. placed-live (class_of s) as_ranges _ c (a.domain i h).as_placed;
        tail = λ i h. placed-live (class_of s) address_ranges _ c (a.hop i h).tail_placed;
        head = λ i h. placed-live (class_of s) address_ranges _ c (a.hop i h).head_placed;
      };
    }

-- ---- a profile that mixes test and live identifiers

-- some AS or node of the profile's records lies inside the reserved ranges (true) or outside them (false)
pub data Holds (L : Layout) (s : List ℕ) (inside : Bool) : Type 0 where
  as_number : (i : ℕ) → i < domain_count s → in_ranges as_ranges (domain_at s i).asn ≡ inside → Holds L s inside
  tail-node : (i : ℕ) → i < hop_count s → in_ranges address_ranges (hop_at L s i).tail.0 ≡ inside → Holds L s inside
  head-node : (i : ℕ) → i < hop_count s → in_ranges address_ranges (hop_at L s i).head.0 ≡ inside → Holds L s inside

agrees : {L : Layout} {s : List ℕ} {all one : Bool} → Reserved L s all → Holds L s one → all ≡ one
agrees r (as_number i h e) = sym (r.asn i h) ∙ e
agrees r (tail-node i h e) = sym (r.tail i h) ∙ e
agrees r (head-node i h e) = sym (r.head i h) ∙ e

-- it is refused
pub mixed_refused : (L : Layout) (s : List ℕ) → Holds L s true → Holds L s false → profile_verdict L s ≡ Pass → ⊥
mixed_refused L s inside outside e =
    let c = classes_apart L s e in
    ⊎_elim (λ (z : class_of s ≡ 0). true≢false (agrees (c.test z) outside)) (λ (z : class_of s ≡ 1). true≢false (sym (agrees (c.live z) inside))) c.classes
