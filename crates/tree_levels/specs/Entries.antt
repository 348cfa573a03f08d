-- A part of a list of addresses that is ascending: where a node stands or would stand in it, and a part put in the place of another; the heads that are put there.
use Rattle.std.specs.Prelude.{ℕ, ◌+◌, ◌≤◌, ◌<◌, List, ◌++◌, map, length, get_or, take, drop}
use Rattle.std.proofs.Math.Seq.{slice}
use Rattle.model.specs.declared.Hop.{Hop}
use Rattle.model.specs.Lists.{different}
use Rattle.model.specs.Profile.{Layout, hops}

-- of the cells from `from` up to `end`, r is the first whose address isn't below the node, or `end`
pub record FoundNode (addresses : List ℕ) (from end node r : ℕ) : Type 0 where
  pub low : from ≤ r
  pub high : r ≤ end
  pub below : (k : ℕ) → from ≤ k → k < r → get_or addresses k 0 < node
  pub not-below : r < end → node ≤ get_or addresses r 0

-- the list `new` in the cells from `from` on; the others stay
abbrev pub placed : ℕ → List ℕ → List ℕ → List ℕ
placed from new old = take from old ++ new ++ drop (from + length new) old

-- the different heads of the hop records from `first` up to `last`, ascending
unfoldable pub heads_of : Layout → List ℕ → ℕ → ℕ → List ℕ
heads_of L s first last = different (map (λ (h : Hop). h.head.0) (slice first last (hops L s)))
