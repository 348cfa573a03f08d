-- What a search among the hop records from one index up to another finds.
use Rattle.std.specs.Prelude.{ℕ, ◌+◌, ◌≤◌, ◌<◌, List}
use Rattle.model.specs.Profile.{Layout, hop_at}
use Rattle.profile_hop_range.specs.Ranges.{key_of}

-- the first of the records from `lo` up to `hi` whose key is not below `key`; all after it are not below either
pub record LowerBound (L : Layout) (s : List ℕ) (lo hi key r : ℕ) : Type 0 where
  pub start : lo ≤ r
  pub end : r ≤ hi
  pub below : (i : ℕ) → lo ≤ i → i < r → key_of (hop_at L s i) < key
  pub above : (i : ℕ) → r ≤ i → i < hi → key ≤ key_of (hop_at L s i)

-- of the records from `lo` up to `hi`, those with keys from `key` up to `key + width` stand from `first` up to `last`
pub record KeyRange (L : Layout) (s : List ℕ) (lo hi key width first last : ℕ) : Type 0 where
  pub lower : LowerBound L s lo hi key first
  pub upper : LowerBound L s first hi (key + width) last
