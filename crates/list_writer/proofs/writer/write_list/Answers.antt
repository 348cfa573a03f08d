-- `list_writer::writer::write_list` meets its contract: the profile's refusal, that of a sequence that can't be written, that of too little room, or the list over
-- the start of the buffer.
use mathlib.Core.Path.{◌≡◌, sym, ap, ◌∙◌}
use mathlib.Core.Bool.{Bool}
use borrow.Author.Rules.{rules}
use Rattle.std.specs.Prelude.{Err}
use Rattle.model.specs.Verdict.{refuse_if}
use Rattle.model.specs.Profile.{domains}
use Rattle.model.specs.WrittenList.{unwritable}
use Rattle.list_writer.proofs.Outcomes.{refused-profile, refused-sequence, fitting, too_small, room, all_written}
use Rattle.list_writer.proofs.writer.write_list.Goals as goal
use Rattle.list_writer.proofs.writer.write_list.Goals.{After-refuse_if}

-- what is said of the sequence
said : (c : After-refuse_if) → refuse_if (unwritable (domains c.args.profile.now) c.args.domains.now c.args.pinned.now c.args.pins.now c.args.counts.now c.args.exrs.now) 35 0 ≡ c.refuse_if.result
said c = ap (λ (b : Bool). refuse_if b 35 0) (sym c.unwritable-wrong.ensures) ∙ sym c.refuse_if.ensures

pub returns-in_err-verdict_on : goal.returns-in_err-verdict_on
returns-in_err-verdict_on c =
    let a = c.args in
    let told : c.from_residual.result ≡ Err c.in_err-verdict_on.field-0.0 = search rules in
    refused-profile a.profile.now a.domains.now a.pinned.now a.pins.now a.counts.now a.exrs.now a.out.now _ _ told (sym c.verdict_on.ensures ∙ c.in_err-verdict_on.was)

pub returns-in_err-refuse_if : goal.returns-in_err-refuse_if
returns-in_err-refuse_if c =
    let a = c.args in
    let told : c.from_residual-in_err-refuse_if.result ≡ Err c.in_err-refuse_if.field-0.0 = search rules in
    refused-sequence a.profile.now a.domains.now a.pinned.now a.pins.now a.counts.now a.exrs.now a.out.now (sym c.verdict_on.ensures ∙ c.in_ok-verdict_on.was) _ _ told (said (goal.at.returns-in_err-refuse_if c).After-refuse_if ∙ c.in_err-refuse_if.was)

pub list_size-n-requires : goal.list_size-n-requires
list_size-n-requires c =
    let a = c.args in
    fitting a.profile.now a.domains.now a.pinned.now a.pins.now a.counts.now a.exrs.now a.out.now (sym c.verdict_on.ensures ∙ c.in_ok-verdict_on.was) (said (goal.at.list_size-n-requires c).After-refuse_if ∙ c.in_ok-refuse_if.was)

pub returns-in_err-refuse_if-2 : goal.returns-in_err-refuse_if-2
returns-in_err-refuse_if-2 c =
    let a = c.args in
    let told : c.from_residual-in_err-refuse_if-2.result ≡ Err c.in_err-refuse_if-2.field-0.0 = search rules in
    too_small a.profile.now a.domains.now a.pinned.now a.pins.now a.counts.now a.exrs.now a.out.now (sym c.verdict_on.ensures ∙ c.in_ok-verdict_on.was) (said (goal.at.returns-in_err-refuse_if-2 c).After-refuse_if ∙ c.in_ok-refuse_if.was) _ c.list_size-n.ensures.1 _ _ told (sym c.refuse_if-2.ensures ∙ c.in_err-refuse_if-2.was)

pub put_all-requires : goal.put_all-requires
put_all-requires c =
    let a = c.args in
    let passed = sym c.verdict_on.ensures ∙ c.in_ok-verdict_on.was in
    let right = said (goal.at.put_all-requires c).After-refuse_if ∙ c.in_ok-refuse_if.was in
    ((fitting a.profile.now a.domains.now a.pinned.now a.pins.now a.counts.now a.exrs.now a.out.now passed right).0, room a.profile.now a.domains.now a.pinned.now a.pins.now a.counts.now a.exrs.now a.out.now passed right _ c.list_size-n.ensures.1 (sym c.refuse_if-2.ensures ∙ c.in_ok-refuse_if-2.was))

pub returns : goal.returns
returns c =
    let a = c.args in
    all_written a.profile.now a.domains.now a.pinned.now a.pins.now a.counts.now a.exrs.now a.out.now (sym c.verdict_on.ensures ∙ c.in_ok-verdict_on.was) (said (goal.at.returns c).After-refuse_if ∙ c.in_ok-refuse_if.was) _ c.list_size-n.ensures.1 (sym c.refuse_if-2.ensures ∙ c.in_ok-refuse_if-2.was) _ c.put_all.ensures
