-- `profile_record_checks::hop::hop_misplaced` meets its contract: the two nodes are read where the definition reads them.
use Rattle.model.specs.Profile.{hop_at}
use Rattle.profile_record_checks.proofs.hop.hop_misplaced.Goals as goal

pub returns : goal.returns
unfolding hop_at
returns c =
    let starts = c in
    rw (c.address_misplaced-2.ensures, c.address_misplaced.ensures, c.u32_at-2.ensures, c.u32_at.ensures, c.hop_start-at.ensures, c.class_of-class.ensures)
