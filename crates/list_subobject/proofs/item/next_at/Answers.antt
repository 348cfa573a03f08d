-- `list_subobject::item::next_at` meets its contract: a type 1 has its length by the table, any other says it.
use mathlib.Core.Path.{sym, ap}
use Prim.Native.Nat.{ℕ, ◌+◌}
use Rattle.list_subobject.proofs.FormLaws.{long_1}
use Rattle.list_subobject.proofs.item.next_at.Goals as goal

pub returns-then-list-at : goal.returns-then-list-at
returns-then-list-at c =
    ap (λ (n : ℕ). c.args.at + n) (sym (long_1 c.requires c.if-list-at.true))
