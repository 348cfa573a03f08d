-- `list_writer::writable::only_exrs` meets its contract. The loop's invariant: what is left from the offset on has right form, and is only EXRS just when all is. The
-- measure is what is left.
use Prim.Native.Nat.{◌-◌, ◌≤◌}
use mathlib.Core.Path.{◌≡◌}
use lib.ListN.{length}
use Rattle.model.specs.Verdict.{Pass}
use Rattle.model.specs.declared.ListKind.TheVariants.{Include}
use Rattle.model.specs.Subobject.{form_from}
use Rattle.laws.proofs.WrittenSizes.{only_exrs}
use Rattle.list_writer.proofs.writable.only_exrs.Given as goal

abbrev pub invariant-loop-at : goal.invariant-loop-at
invariant-loop-at l = (l.at ≤ length l.bytes) × (form_from Include l.bytes (length l.bytes) l.at ≡ Pass) × (only_exrs l.bytes l.at ≡ only_exrs l.bytes 0)

abbrev pub decreases-loop-at : goal.decreases-loop-at
decreases-loop-at l = length l.bytes - l.at
