-- `profile_record_checks::domain::area_length_fits` meets its contract: the kinds in turn are the lines of the table of rules.
use Rattle.profile_record_checks.proofs.Areas.{fits}
use Rattle.profile_record_checks.proofs.domain.area_length_fits.Goals as goal

pub returns : goal.returns
returns c = fits c.args.kind c.args.length
