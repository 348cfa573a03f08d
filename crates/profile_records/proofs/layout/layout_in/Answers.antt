-- `profile_records::layout::layout_in` meets its contract: it is the definition, opened.
use Rattle.std.proofs.Common.{rules}
use Rattle.model.specs.Profile.{layout_in}
use Rattle.profile_records.proofs.layout.layout_in.Goals as goal

pub returns : goal.returns
unfolding layout_in
returns c = search rules
