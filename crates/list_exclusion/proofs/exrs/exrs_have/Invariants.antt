-- `list_exclusion::exrs::exrs_have` meets its contract. The loop's invariant: what is left decides, for every test that the code is. The measure is what is left of the stretch.
use Prim.Native.Nat.{◌-◌}
use Rattle.model.specs.declared.ListKind.TheVariants.{Include}
use Rattle.list_exclusion.specs.Tests.{Test, IsFound}
use Rattle.list_exclusion.proofs.OnePass.{Undecided}
use Rattle.list_exclusion.proofs.Carried.{carries, nothing}
use Rattle.list_exclusion.proofs.exrs.exrs_have.Given as goal

abbrev pub invariant-loop-at : goal.invariant-loop-at
invariant-loop-at g l =
    record {
      right : Undecided nothing Include l.list l.to l.from l.at;
      left : (q : Test) → IsFound (goal.F-post g l.found) q → Undecided (carries q) Include l.list l.to l.from l.at;
    }

abbrev pub decreases-loop-at : goal.decreases-loop-at
decreases-loop-at g l = l.to - l.at
