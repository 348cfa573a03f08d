-- `path_step::scan` meets its contract. The loop's invariant: the first of all that is taken is the first of those from i on.
use mathlib.Core.Path.{◌≡◌}
use mathlib.Core.List.{head?}
use lib.Seq.{slice}
use Rattle.model.specs.Lists.{keep}
use Rattle.model.specs.Profile.{hops}
use Rattle.profile_records.specs.Layout.{layout_of}
use Rattle.path_step.specs.Onward.{is_taken}
use Rattle.path_step.proofs.scan.Given as goal

abbrev pub invariant-loop-i : goal.invariant-loop-i
invariant-loop-i l =
    head? (keep (is_taken l.by) (slice l.initial.i l.i-end (hops (layout_of l.layout) l.s)))
    ≡ head? (keep (is_taken l.by) (slice l.i l.i-end (hops (layout_of l.layout) l.s)))
