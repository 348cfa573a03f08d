-- The area lengths that fit a domain's area kind, one case for each kind. By taking the table's test apart.
use Prim.Native.Nat.{ℕ, ◌≤◌}
use native.Mathlib.Omega.{arith}
use mathlib.Core.Path.{◌≡◌}
use mathlib.Core.Logic.{◌⊎◌, inl, inr, ⊎_elim}
use mathlib.Core.Bool.{true, false, ◌&&◌, ◌||◌, false≢true}
use lib.Dec.{eqb, leb}
use borrow.Author.Tests.{eqb-true, leb-true}
use Rattle.model.specs.Lists.{any}
use Rattle.model.specs.Profile.{area_length_fits}
use Rattle.laws.proofs.Tests.{and_both, or_either}

rule_fits : (k n kind least most : ℕ) → (eqb k kind && leb least n && leb n most) ≡ true → (k ≡ kind) × (least ≤ n) × (n ≤ most)
rule_fits k n kind least most t =
    let x = and_both (eqb k kind && leb least n) (leb n most) t in
    let y = and_both (eqb k kind) (leb least n) x.0 in
    (eqb-true k kind y.0, leb-true least n y.1, leb-true n most x.1)

-- the kinds and lengths that fit: no area, 4 bytes of OSPF, 1 to 13 of IS-IS
pub fits-cases
    : (k n : ℕ) → area_length_fits k n ≡ true → ((k ≡ 0) × (n ≡ 0)) ⊎ (((k ≡ 1) × (n ≡ 4)) ⊎ ((k ≡ 2) × (1 ≤ n) × (n ≤ 13)))
unfolding area_length_fits
fits-cases k n t =
    ⊎_elim
    (λ a. let r = rule_fits k n 0 0 0 a in inl (r.0, omega arith))
    (λ u.
    ⊎_elim
    (λ b. let r = rule_fits k n 1 4 4 b in inr (inl (r.0, omega arith)))
    (λ v. ⊎_elim (λ c. inr (inr (rule_fits k n 2 1 13 c))) (λ w. absurd (false≢true w)) (or_either (eqb k 2 && leb 1 n && leb n 13) false v))
    (or_either (eqb k 1 && leb 4 n && leb n 4) (eqb k 2 && leb 1 n && leb n 13 || false) u))
    (or_either (eqb k 0 && leb 0 n && leb n 0) ((eqb k 1 && leb 4 n && leb n 4) || (eqb k 2 && leb 1 n && leb n 13 || false)) t)

-- an area has at most 13 bytes
pub fits-short : (k n : ℕ) → area_length_fits k n ≡ true → n ≤ 13
fits-short k n t =
    ⊎_elim
    (λ (a : (k ≡ 0) × (n ≡ 0)). omega arith)
    (λ (u : ((k ≡ 1) × (n ≡ 4)) ⊎ ((k ≡ 2) × (1 ≤ n) × (n ≤ 13))). ⊎_elim (λ (b : (k ≡ 1) × (n ≡ 4)). omega arith) (λ (c : (k ≡ 2) × (1 ≤ n) × (n ≤ 13)). c.2) u)
    (fits-cases k n t)
