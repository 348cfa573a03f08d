-- `buffers::put_bytes` meets its contract. The loop's invariant: the first j bytes are copied.
use mathlib.Core.Path.{◌≡◌}
use lib.ListN.{length}
use lib.Seq.{paste}
use Rattle.buffers.proofs.put_bytes.Given as goal

abbrev pub invariant-loop-j : goal.invariant-loop-j
invariant-loop-j l = (l.out ≡ paste l.initial.out l.at l.bytes l.j) × (length l.out ≡ length l.initial.out)
