-- What exclusions take away, those of an exclude list and those that an EXRS carries, and in which round of a request: document 01, "Exclude list", and document
-- 02, requests [1] and [5]. An exclusion's X bit (`top`)
-- says that it is only desired: it may be dropped where no other path meets the constraints (RFC 5521).
use Rattle.std.specs.Prelude.{ℕ, ◌-◌, ◌/◌, ◌^◌, Bool, true, false, not, List, eqb}
use Rattle.model.specs.declared.Domain.{Domain}
use Rattle.model.specs.declared.Round.{Round}
use Rattle.model.specs.declared.Round.TheVariants.{First, Second}
use Rattle.model.specs.Lists.{any, keep}
use Rattle.model.specs.Subobject.{Named, prefix, system, area, stretch, Subobject}
use Rattle.model.specs.Sequence.{has_area}

-- in the first round every exclusion counts, whatever its X bit, in the second those of X clear
abbrev pub counts : Round → Bool → Bool
counts First top = true
counts Second top = not top

-- the exclusions in force in a round, of those that a list holds
unfoldable pub in_force : Round → List Subobject → List Subobject
in_force x exclusions = keep (λ (s : Subobject). counts x s.top) exclusions

-- some exclusion has X set, whether or not it takes anything away
unfoldable pub some_desired : List Subobject → Bool
some_desired exclusions = any (λ (s : Subobject). s.top) exclusions

-- an address is inside a prefix: the bits before the prefix length agree, those after it are ignored
abbrev pub in_prefix : ℕ → ℕ → ℕ → Bool
in_prefix value n a = eqb (a / 2 ^ (32 - n)) (value / 2 ^ (32 - n))

-- an AS takes away each of its domains, an area each domain with that kind and area in any AS
abbrev pub takes_domain : Domain → Named → Bool
takes_domain d (prefix a n) = false
takes_domain d (system n) = eqb d.asn n
takes_domain d (area a) = has_area a d
takes_domain d (stretch bytes) = false

-- an IPv4 subobject takes away each node inside its prefix
abbrev pub takes_node : ℕ → Named → Bool
takes_node node (prefix a n) = in_prefix a n node
takes_node node (system n) = false
takes_node node (area a) = false
takes_node node (stretch bytes) = false

unfoldable pub excluded_domain : List Subobject → Domain → Bool
excluded_domain exclusions d = any (λ (s : Subobject). takes_domain d s.names) exclusions

unfoldable pub excluded_node : List Subobject → ℕ → Bool
excluded_node exclusions node = any (λ (s : Subobject). takes_node node s.names) exclusions
