-- Reaches as numbers: there and back, and what stands beside an address. By the tests of the definitions.
use mathlib.Core.Path.{◌≡◌, refl, sym, ap, ◌∙◌}
use mathlib.Core.Bool.{Bool, true, false, not}
use Prim.Native.Nat.{ℕ, ◌+◌, ◌^◌, ◌≤◌, ◌<◌}
use native.Mathlib.Omega.{arith}
use lib.Dec.{eqb}
use borrow.Author.Tests.{eqb-true, eqb-false, eq-eqb, ne_eqb}
use Rattle.model.specs.Profile.{cost_limit}
use Rattle.laws.specs.Reach.{Reach, unreached, reach_if, better, via}
use Rattle.laws.proofs.Reach.{better_none, better_first, better_less, better_not_less}
use Rattle.tree_reaches.specs.Reaches.{unreachable, code_of, reach_of, Small}

-- ---- a number that is no cost, and one that is

pub reach_none : (n : ℕ) → n ≡ unreachable → reach_of n ≡ unreached
reach_none n e = ap (λ (b : Bool). reach_if (not b) (record { reachable = true; cost = n })) (eq-eqb n unreachable e)

pub reach_some : (n : ℕ) → (n ≡ unreachable → ⊥) → reach_of n ≡ record { reachable = true; cost = n }
reach_some n h = ap (λ (b : Bool). reach_if (not b) (record { reachable = true; cost = n })) (ne_eqb n unreachable h)

-- ---- one hop more

-- the sum of a hop's cost and a number behind it is a cost
pub cost-fits : (cost there : ℕ) → cost ≤ cost_limit → Small there → (there ≡ unreachable → ⊥) → there < 2 ^ 32 → cost + there < unreachable
cost-fits cost there h small some fits = let k = small (omega arith) in omega arith

module _ (best cost there : ℕ) where
  -- nothing behind the hop
  pub relax_none : there ≡ unreachable → reach_of best ≡ better (reach_of best) (via cost (reach_of there))
  relax_none e = sym (better_none (reach_of best) (via cost (reach_of there)) (ap (λ (x : Reach). (via cost x).reachable) (reach_none there e)))

  module _ (some : there ≡ unreachable → ⊥) (fits : cost + there < unreachable) where
    behind : via cost (reach_of there) ≡ record { reachable = true; cost = cost + there }
    behind = ap (via cost) (reach_some there some)

    arrives : (via cost (reach_of there)).reachable ≡ true
    arrives = ap (λ (x : Reach). x.reachable) behind

    is_new : reach_of (cost + there) ≡ via cost (reach_of there)
    is_new = reach_some (cost + there) (λ e. omega arith) ∙ sym behind

    -- less than what was found so far, or the first that is found
    pub relax_less : cost + there < best → reach_of (cost + there) ≡ better (reach_of best) (via cost (reach_of there))
    relax_less l = go (eqb best unreachable) refl
      where
        go : (b : Bool) → eqb best unreachable ≡ b → reach_of (cost + there) ≡ better (reach_of best) (via cost (reach_of there))
        go true t =
            is_new
            ∙ sym
            (better_first (reach_of best) (via cost (reach_of there)) arrives
            (ap (λ (x : Reach). x.reachable) (reach_none best (eqb-true best unreachable t))))
        go false f =
            let e = ap (λ (x : Reach). x.cost) (reach_some best (eqb-false best unreachable f)) in
            let v = ap (λ (x : Reach). x.cost) behind in
            is_new ∙ sym (better_less (reach_of best) (via cost (reach_of there)) arrives (omega arith))

    -- no less
    pub relax_more : best ≤ cost + there → reach_of best ≡ better (reach_of best) (via cost (reach_of there))
    relax_more l =
        let here = reach_some best (λ e. omega arith) in
        let e = ap (λ (x : Reach). x.cost) here in
        let v = ap (λ (x : Reach). x.cost) behind in
        sym (better_not_less (reach_of best) (via cost (reach_of there)) (ap (λ (x : Reach). x.reachable) here) (omega arith))

-- there and back
pub code_reach : (n : ℕ) → code_of (reach_of n) ≡ n
code_reach n = go (eqb n unreachable) refl
  where
    go : (b : Bool) → eqb n unreachable ≡ b → code_of (reach_of n) ≡ n
    go true t = let e = eqb-true n unreachable t in ap code_of (reach_none n e) ∙ sym e
    go false f = ap code_of (reach_some n (eqb-false n unreachable f))
