-- `profile_record_checks::run::goes_on` meets its contract: the words read are those of the record, and the tests, all true, say that it goes on.
use Rattle.profile_record_checks.proofs.Runs.{all_tested}
use Rattle.profile_records.specs.Layout.{layout_of}
use Rattle.profile_record_checks.proofs.run.goes_on.Goals as goal

pub returns : goal.returns
returns c =
    let reads = c in
    let a = c.args in
    all_tested (layout_of a.layout) a.s.now a.at a.class a.before.pair a.before.tail a.before.head _ _ _ _ _ _ _
    c.key_at-here.ensures.0 c.key_at-here.ensures.1 c.key_at-here.ensures.2 c.u32_at-cost.ensures c.u32_at-other.ensures
    c.u32_at-bits.ensures c.address_misplaced-misplaced.ensures
