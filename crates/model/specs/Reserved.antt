-- The reserved ranges of AS numbers (RFC 5398) and addresses (RFC 5737): document 01's "pools". In class 0 every AS and node lies in them, in class 1 none. And the
-- AS numbers that are nobody's, in no class and in no list.
use Rattle.std.specs.Prelude.{ℕ, zero, suc, Bool, not, ◌&&◌, ◌||◌, List, [], ◌∷◌, eqb, leb}
use Rattle.model.specs.Lists.{any}

pub record Range : Type 0 where
  pub first : ℕ
  pub last : ℕ

abbrev pub as_ranges : List Range
as_ranges =
    record { first = 64496; last = 64511 }
    ∷ record { first = 65536; last = 65551 }
    ∷ []

-- 192.0.2.0/24, 198.51.100.0/24, 203.0.113.0/24
abbrev pub address_ranges : List Range
address_ranges =
    record { first = 0xc0000200; last = 0xc00002ff }
    ∷ record { first = 0xc6336400; last = 0xc63364ff }
    ∷ record { first = 0xcb007100; last = 0xcb0071ff }
    ∷ []

unfoldable pub in_ranges : List Range → ℕ → Bool
in_ranges ranges x = any (λ (r : Range). leb r.first x && leb x r.last) ranges

-- a number from the wrong ranges for the profile's class: outside them in class 0, inside them in class 1
unfoldable pub misplaced : ℕ → List Range → ℕ → Bool
misplaced zero ranges x = not (in_ranges ranges x)
misplaced (suc c) ranges x = in_ranges ranges x

-- AS 0 is never used to identify a network (RFC 7607); 23456, AS_TRANS, stands where two octets can't hold the number that is meant (RFC 6793): document 02, request [6]
unfoldable pub nobodys : ℕ → Bool
nobodys asn = eqb asn 0 || eqb asn 23456
