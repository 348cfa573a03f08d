-- What a step gives, as code takes it: an entry's reach, and the numbers of all entries of its domain, over the numbers of all places.
use Rattle.std.specs.Prelude.{List, ℕ}
use Rattle.std.proofs.Math.Seq.{slice}
use Rattle.laws.specs.Lists.{lists_of}
use Rattle.laws.specs.Reach.{Reach}
use Rattle.profile_records.specs.Layout.{layout_of}
use Rattle.tree_step.specs.declared.Step.{Step}
use Rattle.tree_step.specs.Step.{entry_reach, level_codes}

abbrev pub reach_by : Step → List ℕ → ℕ → Reach
reach_by step codes a =
    entry_reach (layout_of step.layout) step.profile.now (lists_of step.include.now step.exclude.now) step.leg step.asked
    (slice step.leg.next step.leg.end step.addresses.now) (slice step.leg.next step.leg.end codes) a

abbrev pub codes_by : Step → List ℕ → List ℕ
codes_by step codes = level_codes (layout_of step.layout) step.profile.now (lists_of step.include.now step.exclude.now) step.leg step.asked step.addresses.now codes
