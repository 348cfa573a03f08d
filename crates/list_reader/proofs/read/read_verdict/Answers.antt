-- `list_reader::read::read_verdict` meets its contract: an accepted profile has its header.
use borrow.Author.Rules.{rules}
use Rattle.model.specs.Profile.{layout_in}
use Rattle.profile_check.proofs.Access.{file-length}
use Rattle.list_reader.proofs.read.read_verdict.Goals as goal

pub domain_count-requires : goal.domain_count-requires
domain_count-requires c = (file-length (layout_in c.args.profile.now) c.args.profile.now (search rules)).0
