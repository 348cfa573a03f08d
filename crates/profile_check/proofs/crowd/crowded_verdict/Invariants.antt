-- `profile_check::crowd::crowded_verdict` meets its contract. The loop's invariant: the records from `i` on decide, and what is noted are the entry nodes of the current pair
-- (`Passing`).
use Rattle.profile_check.proofs.Crowding.{Passing}
use Rattle.profile_records.specs.Layout.{layout_of}
use Rattle.profile_check.specs.Noting.{Padded}
use Rattle.profile_record_checks.proofs.Turned.{Turned}
use Rattle.model.specs.Profile.{crowded_verdict}
use lib.ListN.{length}
use mathlib.Core.Path.{◌≡◌}
use Prim.Native.Nat.{◌≤◌}
use Rattle.profile_check.proofs.crowd.crowded_verdict.Given as goal

abbrev pub invariant-loop-i : goal.invariant-loop-i
invariant-loop-i l =
    (l.noted.count ≤ 16)
    × (length l.noted.nodes ≡ 16)
    × Padded l.noted.nodes l.noted.count
    × Passing (layout_of l.layout) l.s l.noted.from.0 l.noted.to.0 l.i l.noted.nodes l.noted.count
    × Turned (crowded_verdict (layout_of l.layout) l.s) l.hops l.i
