-- The third of a hop record's checks under a name: one of its two nodes from the wrong ranges.
use Rattle.std.specs.Prelude.{ℕ, Bool, ◌||◌, List}
use Rattle.model.specs.Reserved.{address_ranges, misplaced}
use Rattle.model.specs.Profile.{Layout, class_of, hop_at}

abbrev pub hop_misplaced : Layout → List ℕ → ℕ → Bool
hop_misplaced L s i = misplaced (class_of s) address_ranges (hop_at L s i).tail.0 || misplaced (class_of s) address_ranges (hop_at L s i).head.0
