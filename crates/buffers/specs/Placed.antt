-- Bytes put into a buffer from a place on: what a writer promises.
use Rattle.std.specs.Prelude.{◌≡◌, List, ◌++◌, ℕ, ◌+◌, length, take, drop}

-- the buffer with these bytes from a place on; the others stay
abbrev pub placed : ℕ → List ℕ → List ℕ → List ℕ
placed at bytes old = take at old ++ bytes ++ drop (at + length bytes) old

-- a writer put these bytes, and tells the place after them
pub record Put (at : ℕ) (bytes old new : List ℕ) (after : ℕ) : Type 0 where
  pub holds : new ≡ placed at bytes old
  pub next : after ≡ at + length bytes
