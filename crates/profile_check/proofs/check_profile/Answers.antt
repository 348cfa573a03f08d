-- `profile_check::check_profile` meets its contract: the numbers of the verdict are the call's, by its two cases.
use Rattle.std.specs.Prelude.{Ok, Err}
use mathlib.Core.Path.{◌≡◌, refl, ap, ◌∙◌}
use Rattle.model.specs.Verdict.{Verdict}
use Rattle.model.specs.Answers.{numbers_of_profile}
use Rattle.model.specs.Calls.{profile_numbers, check_profile}
use Rattle.profile_check.proofs.check_profile.Goals as goal

same_numbers : (v : Verdict) → numbers_of_profile v ≡ profile_numbers v
same_numbers (Ok _) = refl
same_numbers (Err r) = refl

pub returns : goal.returns
unfolding check_profile
returns c = same_numbers c.verdict_on.result ∙ ap profile_numbers c.verdict_on.ensures
