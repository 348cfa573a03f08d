-- A part given by its two ends, with its entries ascending between them.
use mathlib.Core.Path.{◌≡◌, sym, subst}
use mathlib.Core.List.{List}
use Prim.Native.Nat.{ℕ, ◌+◌, ◌-◌, ◌≤◌, ◌<◌}
use native.Mathlib.Omega.{arith}
use lib.ListN.{length}
use lib.Seq.{slice}
use Rattle.laws.specs.Sorted.{Sorted}
use Rattle.tree_lookup.specs.LookUp.{Part}

-- as many entries as lie between the two
pub part_end : (from to : ℕ) → from ≤ to → from + (to - from) ≡ to
part_end from to h = omega arith

pub part-between
    : (addresses : List ℕ) (from to : ℕ) → from ≤ to → to ≤ length addresses → to ≤ from + 16 → Sorted ◌<◌ (slice from to addresses)
    → Part addresses from (to - from)
part-between addresses from to order inside few ascending =
    record {
      inside = omega arith;
      few = omega arith;
      ascending = subst (λ (n : ℕ). Sorted ◌<◌ (slice from n addresses)) (sym (part_end from to order)) ascending;
    }
