-- `pcep_reply_writer::parts::put_steps` meets its contract. The loop's invariant: the addresses passed but the first are put behind it.
use Prim.Native.Nat.{◌+◌, ◌*◌}
use mathlib.Core.Path.{◌≡◌}
use Rattle.buffers.specs.Placed.{Put}
use Rattle.pcep_reply_writer.proofs.Steps.{further}
use Rattle.pcep_reply_writer.proofs.parts.put_steps.Given as goal

abbrev pub invariant-loop-i : goal.invariant-loop-i
invariant-loop-i l = (l.at + 2 ≡ l.start + 8 * l.i) × (l.initial.at ≡ l.start + 6) × Put l.initial.at (further l.i l.addresses) l.initial.out l.out l.at
