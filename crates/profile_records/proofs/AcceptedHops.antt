-- Hop records of an accepted profile: each lies in the file, its bandwidth is a number in range and its cost within the limit. From the laws of accepted profiles.
use mathlib.Core.Path.{◌≡◌, ap}
use mathlib.Core.List.{List}
use Prim.Native.Nat.{ℕ, ◌<◌}
use native.Mathlib.Omega.{arith}
use Rattle.model.specs.declared.Hop.{Hop}
use Rattle.model.specs.Profile.{Layout, hop_count, bandwidth_bits, hop_at}
use Rattle.laws.proofs.Accepted.{AcceptedProfile, accepted}
use Rattle.laws.proofs.BoundExact.{in_range_bits}
use Rattle.profile_records.specs.Layout.{HopWithin, RightProfile, RightHop}
use Rattle.profile_records.proofs.Fields.{hop-within}

module _ (L : Layout) (s : List ℕ) (right : RightProfile L s) (i : ℕ) (h : i < hop_count s) where
  facts : AcceptedProfile L s
  facts = accepted L s right.passed

  pub hop-inside : HopWithin L s i
  hop-inside = hop-within L s i (hop_count s) (record { layout = right.layout; inside = omega (arith, facts.sized) }) h

  pub hop_numeric : bandwidth_bits L s i < 0x7f800000
  hop_numeric = (facts.hop i h).bandwidth_in_range

  pub right-hop : (x : Hop) → x ≡ hop_at L s i → RightHop L s i x
  unfolding hop_at
  right-hop x e =
      record {
        is = e;
        cheap = omega (arith, ap (λ (y : Hop). y.cost) e, (facts.hop i h).cost_in_range, right.layout.cheap);
        ranged = rw e (in_range_bits (bandwidth_bits L s i) hop_numeric).0;
      }
