-- What it means that test and live identifiers are apart in a profile.
use Prim.Native.Nat.{ℕ, ◌<◌}
use mathlib.Core.Path.{◌≡◌}
use mathlib.Core.Logic.{◌⊎◌}
use mathlib.Core.Bool.{Bool, true, false}
use mathlib.Core.List.{List}
use Rattle.model.specs.Reserved.{as_ranges, address_ranges, in_ranges}
use Rattle.model.specs.Profile.{Layout, class_of, domain_count, hop_count, domain_at, hop_at}

-- every AS and every node of the profile's records lies in the reserved ranges (true), or none does (false)
pub record Reserved (L : Layout) (s : List ℕ) (inside : Bool) : Type 0 where
  pub asn : (i : ℕ) → i < domain_count s → in_ranges as_ranges (domain_at s i).asn ≡ inside
  pub tail : (i : ℕ) → i < hop_count s → in_ranges address_ranges (hop_at L s i).tail.0 ≡ inside
  pub head : (i : ℕ) → i < hop_count s → in_ranges address_ranges (hop_at L s i).head.0 ≡ inside

pub record ClassesApart (L : Layout) (s : List ℕ) : Type 0 where
  pub classes : (class_of s ≡ 0) ⊎ (class_of s ≡ 1)
  pub test : class_of s ≡ 0 → Reserved L s true
  pub live : class_of s ≡ 1 → Reserved L s false
