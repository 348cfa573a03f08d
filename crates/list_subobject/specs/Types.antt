-- The types of subobjects and their numbers.
use Rattle.std.specs.Prelude.{◌≡◌, ℕ, false, Option, Some, None}
use Rattle.model.specs.declared.ListKind.{ListKind}
use Rattle.model.specs.Subobject as M
use Rattle.list_subobject.specs.declared.types.SubobjectType.{SubobjectType}
use Rattle.list_subobject.specs.declared.types.SubobjectType.TheVariants as T

abbrev pub number_of : SubobjectType → ℕ
number_of T.Prefix = 1
number_of T.WideSystem = 5
number_of T.OspfArea = 6
number_of T.IsisArea = 7
number_of T.System = 32
number_of T.Exrs = 33

-- the type of this number, or none, where no list knows one
abbrev pub TypeIs : ℕ → Option SubobjectType → Type 0
TypeIs n (Some t) = n ≡ number_of t
TypeIs n None = (k : ListKind) → M.known k n ≡ false
