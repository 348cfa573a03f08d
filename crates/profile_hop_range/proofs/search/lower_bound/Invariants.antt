-- `profile_hop_range::search::lower_bound` meets its contract. The loop's invariant: `low` and `high` bracket the place looked for. The measure is how far they are apart.
use Prim.Native.Nat.{◌-◌}
use Rattle.laws.proofs.Halving.{Bracket}
use Rattle.profile_records.specs.Layout.{layout_of}
use Rattle.profile_hop_range.proofs.Halving.{key_at}
use Rattle.profile_hop_range.proofs.search.lower_bound.Given as goal

abbrev pub invariant-loop-low : goal.invariant-loop-low
invariant-loop-low l = Bracket (key_at (layout_of l.layout) l.s) l.from l.to l.key l.key l.low l.high

abbrev pub decreases-loop-low : goal.decreases-loop-low
decreases-loop-low l = l.high - l.low
