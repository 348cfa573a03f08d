-- `pcep_ero::put_addresses` meets its contract. The loop's invariant: the addresses passed are written.
use mathlib.Core.Path.{◌≡◌}
use lib.ListN.{take}
use Rattle.model.specs.Lists.{over}
use Rattle.pcep_model.specs.Pcrep.{addresses_in}
use Rattle.pcep_ero.proofs.put_addresses.Given as goal

abbrev pub invariant-loop-i : goal.invariant-loop-i
invariant-loop-i l = l.out ≡ over (take l.i (addresses_in l.body)) l.initial.out
