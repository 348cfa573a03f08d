-- One hop record at a time: whether it is taken, test by test; and the first of a range of records that passes a test, one turn of a loop over the range.
-- By the cases of the tests.
use mathlib.Core.Path.{◌≡◌, refl, ap, ap₂, ◌∙◌}
use mathlib.Core.Bool.{Bool, true, false, ◌&&◌}
use mathlib.Core.List.{List, ◌∷◌, head?}
use mathlib.Core.Option.{none, some}
use Prim.Native.Nat.{ℕ, suc, ◌≤◌, ◌<◌}
use native.Mathlib.Omega.{arith}
use lib.Seq.{slice, slice-cons, slice_empty}
use Rattle.model.specs.declared.Hop.{Hop}
use Rattle.model.specs.Lists.{keep_if, keep}
use Rattle.model.specs.Profile.{Layout, hop_count, hop_at, hops}
use Rattle.model.specs.Floats.{at_least}
use Rattle.laws.proofs.Records.{hop_at_lem, length-hops}
use Rattle.laws.specs.Descent.{on_shortest}
use Rattle.tree_reaches.specs.Reaches.{reach_of}
use Rattle.path_step.specs.declared.Judge.{Judge}
use Rattle.path_step.specs.Onward.{is_wanted, left_at, is_taken}

-- ---- three tests

module _ (by : Judge) (h : Hop) where
  pub too_narrow : at_least by.asked h.bandwidth ≡ false → is_taken by h ≡ false
  too_narrow e =
      ap (λ (b : Bool). b && (is_wanted by.which h.head.0 && on_shortest (reach_of by.here) h (reach_of (left_at by h.head.0)))) e

  pub not_wanted : is_wanted by.which h.head.0 ≡ false → is_taken by h ≡ false
  not_wanted e =
      ap (λ (b : Bool). at_least by.asked h.bandwidth && (b && on_shortest (reach_of by.here) h (reach_of (left_at by h.head.0)))) e
      ∙ and_none (at_least by.asked h.bandwidth)
    where
      and_none : (b : Bool) → b && false ≡ false
      and_none true = refl
      and_none false = refl

  pub costs-decide
      : at_least by.asked h.bandwidth ≡ true → is_wanted by.which h.head.0 ≡ true
      → is_taken by h ≡ on_shortest (reach_of by.here) h (reach_of (left_at by h.head.0))
  costs-decide e f =
      ap₂ (λ (b w : Bool). b && (w && on_shortest (reach_of by.here) h (reach_of (left_at by h.head.0)))) e f

-- ---- one turn

module _ (p : Hop → Bool) (L : Layout) (s : List ℕ) (i last : ℕ) (h : i < last) (k : last ≤ hop_count s) where
  cut : keep p (slice i last (hops L s)) ≡ keep_if (p (hop_at L s i)) (hop_at L s i) (keep p (slice (suc i) last (hops L s)))
  unfolding keep
  cut =
      let n = length-hops L s in
      ap (keep p)
      (slice-cons i last (hops L s) (hop_at L s i) h (omega arith)
      ∙ ap {B = List Hop} (λ (x : Hop). x ∷ slice (suc i) last (hops L s)) (hop_at_lem L s i (hop_at L s i) (omega arith)))

  pub first_here : p (hop_at L s i) ≡ true → head? (keep p (slice i last (hops L s))) ≡ some (hop_at L s i)
  first_here t = ap head? cut ∙ ap (λ (b : Bool). head? (keep_if b (hop_at L s i) (keep p (slice (suc i) last (hops L s))))) t

  pub first_later : p (hop_at L s i) ≡ false → head? (keep p (slice i last (hops L s))) ≡ head? (keep p (slice (suc i) last (hops L s)))
  first_later f = ap head? cut ∙ ap (λ (b : Bool). head? (keep_if b (hop_at L s i) (keep p (slice (suc i) last (hops L s))))) f

pub first_of_none : (p : Hop → Bool) (L : Layout) (s : List ℕ) (i : ℕ) → head? (keep p (slice i i (hops L s))) ≡ none
unfolding keep
first_of_none p L s i = ap (λ (hs : List Hop). head? (keep p hs)) (slice_empty i (hops L s))
