-- `profile_records::domain::domain_at` meets its contract: each field is read where the definition reads it.
use Rattle.model.specs.Profile.{domain_at}
use Rattle.profile_records.proofs.domain.domain_at.Goals as goal

pub returns : goal.returns
unfolding domain_at
returns c = rw (c.u32_at-asn.ensures, c.area_at-area.ensures)
