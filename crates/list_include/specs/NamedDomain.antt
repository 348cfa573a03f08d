-- What a scan of the domain records finds: no domain, one, or several.
use Rattle.std.specs.Prelude.{Bool, ◌&&◌, List, [], ◌∷◌, ℕ, zero, suc, eqb}
use Rattle.model.specs.Profile.{domain_at}
use Rattle.model.specs.Subobject.{Area}
use Rattle.model.specs.Sequence.{has_area}
use Rattle.list_include.specs.declared.named_domains.NamedDomain.{NamedDomain}
use Rattle.list_include.specs.declared.named_domains.NamedDomain.TheVariants.{Nothing, One, Several}

-- a list of indexes, told by how many there are
abbrev pub found_of : List ℕ → NamedDomain
found_of [] = Nothing
found_of (d ∷ []) = One (record { 0 = d })
found_of (d ∷ e ∷ rest) = Several

-- the same from how many there are and the last of them
abbrev pub found_as : ℕ → ℕ → NamedDomain
found_as zero last = Nothing
found_as (suc zero) last = One (record { 0 = last })
found_as (suc (suc n)) last = Several

-- a domain record is of this AS
abbrev pub system_is : List ℕ → ℕ → ℕ → Bool
system_is s n d = eqb (domain_at s d).asn n

-- a domain record is of this AS and has this area
abbrev pub area_is : List ℕ → ℕ → Area → ℕ → Bool
area_is s n a d = system_is s n d && has_area a (domain_at s d)
