-- `wire::order::record_below` meets its contract. The loop's invariant: the words passed are the same, so what is left decides.
use Rattle.model.specs.Bytes.{part}
use Rattle.model.specs.Lists.{below}
use mathlib.Core.Path.{◌≡◌}
use Prim.Native.Nat.{◌+◌, ◌*◌, ◌-◌}
use Rattle.wire.proofs.order.record_below.Given as goal

abbrev pub invariant-loop-i : goal.invariant-loop-i
invariant-loop-i l =
    below (part l.s l.a (4 * l.words)) (part l.s l.b (4 * l.words)) ≡ below (part l.s (l.a + 4 * l.i) (4 * (l.words - l.i))) (part l.s (l.b + 4 * l.i) (4 * (l.words - l.i)))
