-- What a reply says of a path, as the parts of the message take it: the addresses of one, or why there is none.
use Rattle.std.specs.Prelude.{ℕ, ◌≡◌, Bool, true, false, List, []}
use Rattle.pcep_reply_writer.specs.declared.parts.Route.{Route}
use Rattle.pcep_reply_writer.specs.declared.parts.Route.TheVariants.{Path, NoPath}

abbrev pub is_path : Route → Bool
is_path (Path addresses) = true
is_path (NoPath nature c) = false

abbrev pub addresses_of : Route → List ℕ
addresses_of (Path addresses) = addresses.now
addresses_of (NoPath nature c) = []

abbrev pub nature_of : Route → ℕ
nature_of (Path addresses) = 0
nature_of (NoPath nature c) = nature

abbrev pub c_of : Route → Bool
c_of (Path addresses) = false
c_of (NoPath nature c) = c

-- what the parameters of `write_pcrep` say: where a path was found, the addresses count alone, else the nature of issue and C
pub record RouteIs (found : Bool) (addresses : List ℕ) (nature : ℕ) (c : Bool) (r : Route) : Type 0 where
  pub path : is_path r ≡ found
  pub addresses-are : found ≡ true → addresses_of r ≡ addresses
  pub nature-is : found ≡ false → nature_of r ≡ nature
  pub c-is : found ≡ false → c_of r ≡ c
