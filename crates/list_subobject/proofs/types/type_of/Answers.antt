-- `list_subobject::types::type_of` meets its contract: a number that is none of the six is in no row of the table.
use native.Mathlib.Omega.{arith}
use Rattle.list_subobject.proofs.FormLaws.{unknown}
use Rattle.list_subobject.proofs.types.type_of.Goals as goal

pub returns-in_default : goal.returns-in_default
returns-in_default c = unknown _ (λ e. omega arith) (λ e. omega arith) (λ e. omega arith) (λ e. omega arith) (λ e. omega arith) (λ e. omega arith)
