-- The types that a list knows, and what `head_wrong` says of a known one. By the types.
use mathlib.Core.Path.{◌≡◌, refl}
use mathlib.Core.Bool.{true, false}
use Prim.Native.Nat.{ℕ}
use lib.Dec.{leb}
use Rattle.model.specs.declared.ListKind.{ListKind}
use Rattle.model.specs.declared.ListKind.TheVariants.{Include, Exclude}
use Rattle.model.specs.Subobject.{known, length_fits}
use Rattle.laws.proofs.Tests.{clash}
use Rattle.list_subobject.specs.declared.types.SubobjectType.{SubobjectType}
use Rattle.list_subobject.specs.declared.types.SubobjectType.TheVariants as T
use Rattle.list_subobject.specs.Types.{number_of}
use Rattle.list_subobject.proofs.LengthLaws.{fits_33}

-- an include list knows them all
pub included : (t : SubobjectType) → true ≡ known Include (number_of t)
unfolding known
included T.Prefix = refl
included T.WideSystem = refl
included T.OspfArea = refl
included T.IsisArea = refl
included T.System = refl
included T.Exrs = refl

-- an exclude list knows the others beside EXRS
pub excluded : (t : SubobjectType) → (t ≡ T.Exrs → ⊥) → true ≡ known Exclude (number_of t)
unfolding known
excluded T.Prefix d = refl
excluded T.WideSystem d = refl
excluded T.OspfArea d = refl
excluded T.IsisArea d = refl
excluded T.System d = refl
excluded T.Exrs d = absurd (d refl)

pub excluded_exrs : known Exclude 33 ≡ false
unfolding known
excluded_exrs = refl

pub fits_exrs : (k : ListKind) (a n : ℕ) → known k 33 ≡ true → length_fits k 33 a n ≡ leb 4 n
unfolding known
fits_exrs Include a n e = fits_33 a n
fits_exrs Exclude a n e = clash e refl
