-- `profile_reserved::as_nobodys` meets its contract: it is the definition, opened.
use Rattle.std.proofs.Common.{rules}
use Rattle.model.specs.Reserved.{nobodys}
use Rattle.profile_reserved.proofs.as_nobodys.Goals as goal

pub returns : goal.returns
unfolding nobodys
returns c = search rules
