-- `profile_record_checks::hop::hops_verdict` meets its contract. The loop's invariant: the records from `i` on decide, since those of each run passed. The measure is how many are left.
use Rattle.profile_records.specs.Layout.{layout_of}
use Rattle.model.specs.Profile.{hop_verdict}
use Rattle.profile_record_checks.proofs.Turned.{Turned}
use Prim.Native.Nat.{◌-◌}
use Rattle.profile_record_checks.proofs.hop.hops_verdict.Given as goal

abbrev pub invariant-loop-i : goal.invariant-loop-i
invariant-loop-i l = Turned (hop_verdict (layout_of l.layout) l.s) l.hops l.i

abbrev pub decreases-loop-i : goal.decreases-loop-i
decreases-loop-i l = l.hops - l.i
