-- What is said of a run, the hop records that leave one node of a pair of domains: a record that goes on with one, and how far the records of one surely pass.
use Rattle.std.specs.Prelude.{ℕ, ◌+◌, ◌<◌, ◌≤◌, ◌≡◌, false, List}
use Rattle.model.specs.Verdict.{Pass}
use Rattle.model.specs.Bytes.{number}
use Rattle.model.specs.Reserved.{address_ranges, misplaced}
use Rattle.model.specs.Profile.{Layout, hop_verdict}

-- the record at an offset has these first eight bytes, a head above the one before and from the right ranges, and costs and bandwidth in range
pub record GoesOn (L : Layout) (s : List ℕ) (at class pair tail before : ℕ) : Type 0 where
  pub pair_same : number 4 s at ≡ pair
  pub tail_same : number 4 s (at + 4) ≡ tail
  pub above : before < number 4 s (at + 8)
  pub placed : misplaced class address_ranges (number 4 s (at + 8)) ≡ false
  pub cost : number 4 s (at + L.cost_at) ≤ L.most_cost
  pub other : number 4 s (at + L.other_at) ≤ L.most_cost
  pub bits : number 4 s (at + 16) < 0x7f800000

-- the records from `first` up to `end` pass, and there is at least that one
pub record RunTo (L : Layout) (s : List ℕ) (first n end : ℕ) : Type 0 where
  pub further : first < end
  pub within : end ≤ n
  pub pass : (k : ℕ) → first ≤ k → k < end → hop_verdict L s k ≡ Pass
