-- Areas of domain records: the lengths of each kind, and the two tests of an area as one.
use mathlib.Core.Path.{◌≡◌, refl, sym, ap, ap₂, ◌∙◌}
use mathlib.Core.Bool.{Bool, true, false, not, ◌&&◌, ◌||◌, and_assoc, or_assoc, or-false}
use Prim.Native.Nat.{ℕ}
use native.Mathlib.Omega.{arith}
use borrow.Author.Tests.{le-leb, lt-leb, leb-true, eqb-true, eqb-false}
use lib.ListN.{length}
use lib.Dec.{eqb, leb}
use Rattle.model.specs.Profile.{area_length_fits}

exactly : (a n : ℕ) → leb a n && leb n a ≡ eqb n a
exactly a n = go (eqb n a) refl
  where
    apart : (t : Bool) → leb a n ≡ t → (n ≡ a → ⊥) → leb a n && leb n a ≡ false
    apart true e ne = rw (e, lt-leb n a (omega (arith, leb-true a n e))) refl
    apart false e ne = rw e refl

    go : (t : Bool) → eqb n a ≡ t → leb a n && leb n a ≡ t
    go true e = rw (le-leb a n (omega (arith, eqb-true n a e)), le-leb n a (omega (arith, eqb-true n a e))) refl
    go false e = apart (leb a n) refl (eqb-false n a e)

-- the rules of the three kinds in turn, where a kind with one length has it exactly
pub fits : (k n : ℕ) → (eqb k 0 && eqb n 0) || (eqb k 1 && eqb n 4) || (eqb k 2 && leb 1 n && leb n 13) ≡ area_length_fits k n
unfolding area_length_fits
fits k n =
    or_assoc (eqb k 0 && eqb n 0) (eqb k 1 && eqb n 4) (eqb k 2 && leb 1 n && leb n 13)
    ∙ ap₂ ◌||◌ (only 0 0) (ap₂ ◌||◌ (only 1 4) (sym (or-false (eqb k 2 && leb 1 n && leb n 13))))
  where
    only : (kind length : ℕ) → eqb k kind && eqb n length ≡ eqb k kind && leb length n && leb n length
    only kind length =
        ap (λ (t : Bool). eqb k kind && t) (sym (exactly length n)) ∙ sym (and_assoc (eqb k kind) (leb length n) (leb n length))

-- the two tests of an area as one
pub both_fit : (a b c d : Bool) → (not (a && b) || c) || d ≡ ((not a || not b) || c) || d
both_fit true b c d = refl
both_fit false b c d = refl
