-- `profile_record_checks::domain::domain_misordered` meets its contract: a record that is not the first is compared with the one before it.
use borrow.Author.Rules.{rules}
use Rattle.model.specs.Profile.{domain_misordered}
use Rattle.profile_record_checks.proofs.Neighbours.{domain-after}
use Rattle.profile_record_checks.proofs.domain.domain_misordered.Goals as goal

pub returns-then-i-eq0 : goal.returns-then-i-eq0
unfolding domain_misordered
returns-then-i-eq0 c = search rules

pub returns : goal.returns
returns c =
    let reads = c in
    let a = c.args in
    rw (domain-after a.s.now a.i c.if-i-eq0.false, c.domain_at-this.ensures, c.domain_at-before.ensures, c.record_below-ascends.ensures)
