-- `profile_check::verdict_on` meets its contract: the layout that the bytes say is sound.
use mathlib.Core.Path.{ap, ◌∙◌}
use Rattle.model.specs.Profile.{Layout, profile_verdict}
use Rattle.profile_records.proofs.Layouts.{layout-sound}
use Rattle.profile_check.proofs.verdict_on.Goals as goal

pub profile_verdict-requires : goal.profile_verdict-requires
profile_verdict-requires c = rw c.layout_in.ensures (layout-sound c.args.profile.now)

pub returns : goal.returns
returns c = c.profile_verdict.ensures ∙ ap (λ (L : Layout). profile_verdict L c.args.profile.now) c.layout_in.ensures
