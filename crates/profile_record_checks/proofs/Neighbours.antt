-- A record that is not the first is compared with the one before it: the definitions' clauses for a successor, at an index that is not 0.
use mathlib.Core.Path.{◌≡◌, refl}
use mathlib.Core.Bool.{not, ◌&&◌, ◌||◌}
use mathlib.Core.List.{List}
use Prim.Native.Nat.{ℕ, zero, suc, ◌-◌}
use native.Mathlib.Omega.{arith}
use lib.Dec.{eqb}
use Rattle.model.specs.Lists.{below}
use Rattle.model.specs.Bytes.{part}
use Rattle.model.specs.Profile.{Layout, domain_start, domain_at, domain_misordered, hop_start, hop_misordered}

pub domain-after : (s : List ℕ) (i : ℕ) → (i ≡ 0 → ⊥)
    → domain_misordered s i
    ≡ not (below (part s (domain_start (i - 1)) 20) (part s (domain_start i) 20))
    || (eqb (domain_at s (i - 1)).kind 0 && eqb (domain_at s (i - 1)).asn (domain_at s i).asn)
unfolding domain_misordered
domain-after s zero h = absurd (h refl)
domain-after s (suc i) h =
    let before : suc i - 1 ≡ i = omega arith in
    rw before refl

pub hop-after : (L : Layout) (s : List ℕ) (i : ℕ) → (i ≡ 0 → ⊥)
    → hop_misordered L s i ≡ not (below (part s (hop_start L s (i - 1)) 12) (part s (hop_start L s i) 12))
unfolding hop_misordered
hop-after L s zero h = absurd (h refl)
hop-after L s (suc i) h =
    let before : suc i - 1 ≡ i = omega arith in
    rw before refl
