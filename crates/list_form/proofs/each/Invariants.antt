-- `list_form::each` meets its contract. The loop's invariant: the form of what is left up to the end is that of all of it, in each kind of list whose form the code checks. The measure is what is left.
use Prim.Native.Nat.{◌-◌, ◌≤◌}
use mathlib.Core.Path.{◌≡◌}
use Rattle.model.specs.declared.ListKind.{ListKind}
use Rattle.model.specs.Subobject.{form_from}
use Rattle.list_form.specs.Checks.{IsFormCheck}
use Rattle.list_form.proofs.each.Given as goal

abbrev pub invariant-loop-at : goal.invariant-loop-at
invariant-loop-at g l =
    record {
      reached : l.at ≤ l.end;
      same : (kind : ListKind) → IsFormCheck (goal.F-post g l.check) kind l.list l.end → form_from kind l.list l.end l.at ≡ form_from kind l.list l.end l.from;
    }

abbrev pub decreases-loop-at : goal.decreases-loop-at
decreases-loop-at g l = l.end - l.at
