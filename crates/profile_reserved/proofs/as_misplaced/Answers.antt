-- `profile_reserved::as_misplaced` meets its contract: the first two ranges of the table are those of AS numbers.
use mathlib.Core.Path.{◌∙◌}
use Rattle.model.specs.Reserved.{as_ranges, in_ranges}
use Rattle.profile_reserved.proofs.Classes.{by_class}
use Rattle.profile_reserved.proofs.as_misplaced.Goals as goal

pub returns : goal.returns
unfolding in_ranges
returns c = c.misplaced_by.ensures ∙ (rw c.lies_in.ensures (by_class c.args.class as_ranges c.args.x))
