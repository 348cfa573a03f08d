-- Comparing records a word of four bytes at a time: where the words differ they decide, and where they are the same the rest does.
use mathlib.Core.Path.{◌≡◌, refl, subst}
use mathlib.Core.Bool.{false, ◌&&◌, ◌||◌, or-false}
use mathlib.Core.List.{List}
use Prim.Native.Nat.{ℕ, ◌+◌, ◌*◌, ◌-◌, ◌<◌, ◌≤◌}
use native.Mathlib.Omega.{arith}
use borrow.Author.Tests.{le-ltb, eq-eqb, ne_eqb}
use lib.ListN.{length, get_or}
use lib.Dec.{ltb, eqb}
use Rattle.model.specs.Lists.{below}
use Rattle.model.specs.Bytes.{number, part}
use Rattle.laws.proofs.Words.{below_word}

module _ (s : List ℕ) (a b left : ℕ) (bytes : (i : ℕ) → get_or s i 0 < 256) (some : 0 < left) (fa : a + 4 * left ≤ length s) (fb : b + 4 * left ≤ length s) where
  step : below (part s a (4 * left)) (part s b (4 * left))
      ≡ ltb (number 4 s a) (number 4 s b) || (eqb (number 4 s a) (number 4 s b) && below (part s (a + 4) (4 * (left - 1))) (part s (b + 4) (4 * (left - 1))))
  step =
      let whole : 4 + 4 * (left - 1) ≡ 4 * left = omega arith in
      subst
      (λ (n : ℕ).
      below (part s a n) (part s b n)
      ≡ ltb (number 4 s a) (number 4 s b) || (eqb (number 4 s a) (number 4 s b) && below (part s (a + 4) (4 * (left - 1))) (part s (b + 4) (4 * (left - 1)))))
      whole
      (below_word 4 (4 * (left - 1)) s a b bytes (omega arith) (omega arith))

  pub word_differs : (number 4 s a ≡ number 4 s b → ⊥) → below (part s a (4 * left)) (part s b (4 * left)) ≡ ltb (number 4 s a) (number 4 s b)
  word_differs d = rw (step, ne_eqb (number 4 s a) (number 4 s b) d, or-false (ltb (number 4 s a) (number 4 s b))) refl

  pub word_same : number 4 s a ≡ number 4 s b → below (part s a (4 * left)) (part s b (4 * left)) ≡ below (part s (a + 4) (4 * (left - 1))) (part s (b + 4) (4 * (left - 1)))
  word_same e = rw (step, le-ltb (number 4 s a) (number 4 s b) (omega arith), eq-eqb (number 4 s a) (number 4 s b) e) refl

pub nothing_left : (s : List ℕ) (a b left : ℕ) → left ≤ 0 → below (part s a (4 * left)) (part s b (4 * left)) ≡ false
unfolding below
nothing_left s a b left h =
    let none : 4 * left ≡ 0 = omega arith in
    rw none refl
