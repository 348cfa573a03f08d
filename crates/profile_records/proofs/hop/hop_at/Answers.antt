-- `profile_records::hop::hop_at` meets its contract: each field is read where the definition reads it, and bits below 7F800000 are no NaN's.
use Rattle.profile_records.proofs.Fields.{no_nan}
use Rattle.model.specs.Profile.{hop_at}
use Rattle.profile_records.proofs.hop.hop_at.Goals as goal

pub float_from_bits-bandwidth : goal.float_from_bits-bandwidth
float_from_bits-bandwidth c =
    no_nan c.u32_at-bandwidth.result
    (rw
    (c.u32_at-bandwidth.ensures, c.hop_start-at.ensures)
    c.requires.i_bound)

pub returns : goal.returns
unfolding hop_at
returns c =
    rw (
      c.u16_at.ensures,
      c.u16_at-2.ensures,
      c.u32_at.ensures,
      c.u32_at-2.ensures,
      c.u32_at-cost.ensures,
      c.u32_at-bandwidth.ensures,
      c.hop_start-at.ensures,
    )
