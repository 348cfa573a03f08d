-- How long the objects of a written PCRep are, by the numbers of addresses and METRICs.
use Rattle.std.specs.Prelude.{◌≡◌, Bool, cond, List, ℕ, ◌+◌, ◌*◌, min, length}

-- an ERO, or a NO-PATH
abbrev pub route_length : Bool → ℕ → ℕ
route_length found addresses = cond found (4 + 8 * addresses) 8

-- with the header and the RP before it, and the METRICs behind it
abbrev pub message_length : Bool → ℕ → ℕ → ℕ
message_length found addresses metrics = 16 + route_length found addresses + 12 * metrics

-- as the machine tells it: the greatest number of 64 bits where it is more
abbrev pub capped : ℕ → ℕ
capped n = min 18446744073709551615 n

-- three lists of METRIC fields belong together
pub record Together (kinds flags values : List ℕ) : Type 0 where
  pub as_many_flags : length flags ≡ length kinds
  pub as_many_values : length values ≡ length kinds
