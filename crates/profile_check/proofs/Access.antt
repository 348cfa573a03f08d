-- What an accepted profile lets a caller read: every domain record below the count meets what `domain_at` asks; and that the first version's layout is sound.
use mathlib.Core.Path.{◌≡◌}
use mathlib.Core.List.{List}
use Prim.Native.Nat.{ℕ, ◌≤◌}
use native.Mathlib.Omega.{arith}
use lib.ListN.{length}
use Rattle.model.specs.Verdict.{Pass}
use Rattle.model.specs.Profile.{Layout, hop_count, hop_start, profile_verdict}
use Rattle.laws.proofs.Accepted.{accepted}
use Rattle.laws.proofs.AreaLengths.{fits-short}
use Rattle.profile_records.specs.Domains.{WholeDomains, ShortAreas}

module _ (L : Layout) (s : List ℕ) (passed : profile_verdict L s ≡ Pass) where
  pub file-length : (12 ≤ length s) × (length s ≡ hop_start L s (hop_count s))
  file-length = let a = accepted L s passed in (a.has_header, a.sized)

  -- so do all, and no area is longer than its record has room for
  pub whole-domains : WholeDomains s
  whole-domains =
      let a = accepted L s passed in
      record { header = a.has_header; whole = omega (arith, a.sized); few = a.most_domains }

  pub short_areas : ShortAreas s
  short_areas i h = fits-short _ _ ((accepted L s passed).domain i h).area_fits
