-- `list_exclusion::some_passes` meets its contract. The loop keeps a `Walk`; its invariant: the walk is one along the list, and what is left from its place on decides, for every test that the code is. The measure is what is left of the list.
use Prim.Native.Nat.{◌-◌}
use mathlib.Core.Path.{◌≡◌}
use lib.ListN.{length}
use Rattle.list_exclusion.specs.Tests.{Test, IsTest}
use Rattle.list_exclusion.proofs.Exclusions.{Undecided, never}
use Rattle.list_exclusion.proofs.some_passes.Given as goal

abbrev pub invariant-loop-walk : goal.invariant-loop-walk
invariant-loop-walk g l =
    record {
      along : l.walk.list.now ≡ l.list;
      right : Undecided never l.list l.walk.at;
      left : (q : Test) → IsTest (goal.F-post g l.test) l.list q → Undecided q l.list l.walk.at;
    }

abbrev pub decreases-loop-walk : goal.decreases-loop-walk
decreases-loop-walk g l = length l.list - l.walk.at
