-- What a function that reads domain records by their number asks for.
use Rattle.std.specs.Prelude.{List, ℕ, ◌<◌, ◌≤◌, length}
use Rattle.model.specs.Profile.{domain_count, domain_start, domain_at}

-- the bytes hold as many domain records as the header says, of which there are at most 64
pub record WholeDomains (s : List ℕ) : Type 0 where
  pub header : 12 ≤ length s
  pub whole : domain_start (domain_count s) ≤ length s
  pub few : domain_count s ≤ 64

-- no area is longer than a record has room for
abbrev pub ShortAreas : List ℕ → Type 0
ShortAreas s = (i : ℕ) → i < domain_count s → (domain_at s i).length ≤ 13
