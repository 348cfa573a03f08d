-- `profile_record_checks::hop::hop_misordered` meets its contract: a record that is not the first is compared with the one before it.
use borrow.Author.Rules.{rules}
use Rattle.profile_record_checks.proofs.Neighbours.{hop-after}
use Rattle.profile_records.proofs.Fields.{starts-before, within-before}
use Rattle.profile_records.specs.Layout.{layout_of}
use Rattle.model.specs.Profile.{hop_misordered}
use native.Mathlib.Omega.{arith}
use Rattle.profile_record_checks.proofs.hop.hop_misordered.Goals as goal

pub returns-then-i-eq0 : goal.returns-then-i-eq0
unfolding hop_misordered
returns-then-i-eq0 c = search rules

pub hop_start-before-requires : goal.hop_start-before-requires
hop_start-before-requires c =
    let a = c.args in
    within-before (layout_of a.layout) a.s.now a.i c.requires

pub record_below-requires : goal.record_below-requires
record_below-requires c =
    let a = c.args in
    omega (arith, starts-before (layout_of a.layout) a.s.now a.i)

pub returns : goal.returns
returns c =
    let a = c.args in
    rw (hop-after (layout_of a.layout) a.s.now a.i c.if-i-eq0.false, c.record_below.ensures, c.hop_start-at.ensures, c.hop_start-before.ensures)
