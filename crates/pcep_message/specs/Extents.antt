-- What an object holds, by where it starts: nothing where there is none.
use Rattle.std.specs.Prelude.{ℕ, ◌+◌, ◌-◌, ◌≤◌, ◌≡◌, List, length, Option, None, Some}
use Rattle.model.specs.Bytes.{number}
use Rattle.pcep_model.specs.declared.Extent.{Extent}
use Rattle.pcep_model.specs.Objects.{size_at}

-- four bytes of it
abbrev pub bits_in : List ℕ → Option ℕ → ℕ → ℕ
bits_in s None behind = 0
bits_in s (Some at) behind = number 4 s (at + behind)

-- the list behind its fixed part, inside its message
abbrev pub extent_in : List ℕ → Option ℕ → ℕ → Extent
extent_in s None fixed = record { start = 0; size = 0 }
extent_in s (Some at) fixed = record { start = at + fixed; size = size_at s at - fixed }

pub record ExtentIs (s : List ℕ) (at : Option ℕ) (fixed : ℕ) (r : Extent) : Type 0 where
  pub is : r ≡ extent_in s at fixed
  pub inside : r.start + r.size ≤ length s
