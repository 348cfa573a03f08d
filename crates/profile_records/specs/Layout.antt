-- The code's layout as the definitions' one, what a function that reads a hop record asks for, and what one read from an accepted profile has.
use Rattle.std.specs.Prelude.{ℕ, ◌+◌, ◌≤◌, ◌≡◌, true, List, length}
use Rattle.model.specs.Verdict.{Pass}
use Rattle.model.specs.declared.Hop.{Hop}
use Rattle.model.specs.Floats.{in_range}
use Rattle.model.specs.Profile as Profile
use Rattle.profile_records.specs.declared.layout.Layout.{Layout}

abbrev pub layout_of : Layout → Profile.Layout
layout_of l = record { version = l.version; hop_size = l.hop_size; cost_at = l.cost_at; other_at = l.other_at; most_cost = l.most_cost; most_hops = l.most_hops }

-- a hop record has room for its fields, its size is that of a short record, and its largest cost is within the limit of every version
pub record SoundLayout (L : Profile.Layout) : Type 0 where
  pub fields : 20 ≤ L.hop_size
  pub cost : L.cost_at + 4 ≤ L.hop_size
  pub other : L.other_at + 4 ≤ L.hop_size
  pub small : L.hop_size ≤ 255
  pub cheap : L.most_cost ≤ Profile.cost_limit

-- an accepted profile of a sound layout: what a function that reads its records by number asks for
pub record RightProfile (L : Profile.Layout) (s : List ℕ) : Type 0 where
  pub layout : SoundLayout L
  pub passed : Profile.profile_verdict L s ≡ Pass

-- hop record i of such a profile: its cost is within the limit, its bandwidth in range
pub record RightHop (L : Profile.Layout) (s : List ℕ) (i : ℕ) (h : Hop) : Type 0 where
  pub is : h ≡ Profile.hop_at L s i
  pub cheap : h.cost ≤ Profile.cost_limit
  pub ranged : in_range h.bandwidth ≡ true

-- hop record i lies in the file
pub record HopWithin (L : Profile.Layout) (s : List ℕ) (i : ℕ) : Type 0 where
  pub layout : SoundLayout L
  pub inside : Profile.hop_start L s i + L.hop_size ≤ length s

-- the first n hop records lie in the file
pub record HopsWithin (L : Profile.Layout) (s : List ℕ) (n : ℕ) : Type 0 where
  pub layout : SoundLayout L
  pub inside : Profile.hop_start L s n ≤ length s
