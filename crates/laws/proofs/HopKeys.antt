-- The order in which a profile holds its hop records, by `from`, `to`, `tail` and `head`; in that order no two records have the same four. By recursion on the list.
use mathlib.Core.Path.{◌≡◌, sym, subst, ◌∙◌, ap}
use mathlib.Core.Logic.{⊎_elim}
use mathlib.Core.Bool.{true}
use mathlib.Core.List.Memᴰ
use mathlib.Core.List.{List, [], ◌∷◌, Memᴰ}
use Prim.Native.Nat.{ℕ, ◌<◌}
use native.Mathlib.Omega.{arith}
use lib.Dec.{eqb}
use borrow.Author.Tests.{eqb-true}
use Rattle.model.specs.declared.Hop.{Hop}
use Rattle.model.specs.Lists.{below}
use Rattle.model.specs.Profile.{between}
use Rattle.laws.proofs.Tests.{and_both}
use Rattle.laws.specs.Sorted.{Sorted}
use Rattle.laws.proofs.Below.{below_cons, below_irrefl}

-- what a hop record is ordered by
abbrev pub hop_key : Hop → List ℕ
hop_key h = h.from.0 ∷ h.to.0 ∷ h.tail.0 ∷ h.head.0 ∷ []

abbrev pub HopBelow : Hop → Hop → Type 0
HopBelow g h = below (hop_key g) (hop_key h) ≡ true

-- each hop record is above every one before it
abbrev pub SortedHops : List Hop → Type 0
SortedHops hs = Sorted (λ (g h : Hop). below (hop_key g) (hop_key h) ≡ true) hs

-- the hop record of given `from`, `to`, `tail` and `head` is the only one
pub hop_only : (hs : List Hop) → SortedHops hs → (g h : Hop) → Memᴰ g hs → Memᴰ h hs → hop_key g ≡ hop_key h → g ≡ h
hop_only [] s g h m n e = absurd (Memᴰ.not-nil m)
hop_only (x ∷ xs) s g h m n e =
    ⊎_elim
    (λ (p : g ≡ x). ⊎_elim (λ (q : h ≡ x). p ∙ sym q) (λ (t : Memᴰ h xs). absurd (apart h t (ap hop_key (sym p) ∙ e))) (Memᴰ.cases_cons n))
    (λ (t : Memᴰ g xs).
    ⊎_elim
    (λ (q : h ≡ x). absurd (apart g t (ap hop_key (sym q) ∙ sym e)))
    (λ (u : Memᴰ h xs). hop_only xs s.1 g h t u e)
    (Memᴰ.cases_cons n))
    (Memᴰ.cases_cons m)
  where
    apart : (y : Hop) → Memᴰ y xs → hop_key x ≡ hop_key y → ⊥
    apart y t k = below_irrefl (hop_key y) (subst (λ (z : List ℕ). below z (hop_key y) ≡ true) k (s.0 y t))

below-after : (x y : ℕ) (xs ys : List ℕ) → x ≡ y → below (x ∷ xs) (y ∷ ys) ≡ true → below xs ys ≡ true
below-after x y xs ys e t = ⊎_elim (λ (l : x < y). absurd (omega arith)) (λ r. r.1) (below_cons x y xs ys t)

below_last : (x y : ℕ) → below (x ∷ []) (y ∷ []) ≡ true → x < y
below_last x y t = ⊎_elim (λ (l : x < y). l) (λ r. absurd (below_irrefl [] r.1)) (below_cons x y [] [] t)

-- of two hop records that differ at most in their heads, the later one has the greater head
pub heads-ascend
    : (g h : Hop)
    → g.from.0 ≡ h.from.0
    → g.to.0 ≡ h.to.0
    → g.tail.0 ≡ h.tail.0
    → below (hop_key g) (hop_key h) ≡ true
    → g.head.0 < h.head.0
heads-ascend g h from to tail t =
    below_last _ _ (below-after _ _ _ _ tail (below-after _ _ _ _ to (below-after _ _ _ _ from t)))

-- both ends of a hop on a leg
pub between-both : (d e : ℕ) (h : Hop) → between d e h ≡ true → (h.from.0 ≡ d) × (h.to.0 ≡ e)
between-both d e h t = let r = and_both (eqb h.from.0 d) (eqb h.to.0 e) t in (eqb-true _ _ r.0, eqb-true _ _ r.1)
