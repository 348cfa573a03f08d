-- `list_reader::exrs::put_exrs` meets its contract. The loop's invariant: the EXRS passed are put. The measure is what is left of the stretch.
use Prim.Native.Nat.{◌-◌}
use mathlib.Core.Path.{◌≡◌}
use lib.ListN.{length}
use Rattle.laws.specs.Exrs.{exrs_in}
use Rattle.laws.proofs.ExrsSizes.{Passed}
use Rattle.buffers.specs.Placed.{Put}
use Rattle.list_reader.proofs.exrs.put_exrs.Given as goal

abbrev pub invariant-loop-o : goal.invariant-loop-o
invariant-loop-o l = Passed l.list l.from l.to l.o × Put l.at (exrs_in l.list l.from l.o) l.initial.out l.out l.end × (length l.out ≡ length l.initial.out)

abbrev pub decreases-loop-o : goal.decreases-loop-o
decreases-loop-o l = l.to - l.o
