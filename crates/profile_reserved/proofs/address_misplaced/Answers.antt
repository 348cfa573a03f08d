-- `profile_reserved::address_misplaced` meets its contract: the last three ranges of the table are those of addresses.
use mathlib.Core.Path.{◌∙◌}
use Rattle.model.specs.Reserved.{address_ranges, in_ranges}
use Rattle.profile_reserved.proofs.Classes.{by_class}
use Rattle.profile_reserved.proofs.address_misplaced.Goals as goal

pub returns : goal.returns
unfolding in_ranges
returns c = c.misplaced_by.ensures ∙ (rw c.lies_in.ensures (by_class c.args.class address_ranges c.args.x.0))
