-- `tree_fields::put::put_costs` meets its contract. The loop's invariant: the costs of the first i entries are written.
use mathlib.Core.List.{map}
use lib.ListN.{take}
use Rattle.buffers.proofs.Copies.{Copied}
use Rattle.tree_fields.specs.Fields.{cost_of}
use Rattle.tree_fields.proofs.put.put_costs.Given as goal

abbrev pub invariant-loop-i : goal.invariant-loop-i
invariant-loop-i l = Copied (map cost_of (take l.n l.codes)) l.initial.out l.out l.i
