-- `profile_record_checks::header::counts_wrong` meets its contract: the tests are the definition's.
use Rattle.model.specs.Profile.{counts_wrong}
use Rattle.profile_record_checks.proofs.header.counts_wrong.Goals as goal

pub returns : goal.returns
unfolding counts_wrong
returns c =
    let reads = c in
    rw (c.hop_count-hops.ensures, c.domain_count-domains.ensures, c.class_of-class.ensures)
