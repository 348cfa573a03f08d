-- `list_reader::read::read_include` meets its contract: a refusal of the checks or of the meaning, or what becomes of the state's sequence.
use mathlib.Core.Path.{◌≡◌, sym, ap, ◌∙◌}
use borrow.Author.Rules.{rules}
use Rattle.std.specs.Prelude.{Result, Err}
use Rattle.model.specs.declared.Refusal.{Refusal}
use Rattle.model.specs.Profile.{layout_in}
use Rattle.model.specs.Calls.{reading_of}
use Rattle.list_include.specs.declared.state.State.{State}
use Rattle.profile_check.proofs.Access.{whole-domains, short_areas}
use Rattle.list_include.specs.Reading.{read_of, state_stops}
use Rattle.list_reader.proofs.ReadChecks.{Passed, passed}
use Rattle.list_reader.proofs.ReadOutcomes.{checks_refused, checks_passed, outcome_of, refused-is, same_outcome}
use Rattle.list_reader.proofs.read.read_include.Goals as goal
use Rattle.list_reader.proofs.read.read_include.Goals.{After-read_list, In_ok-read_verdict}

-- the checks passed
checked : (c : In_ok-read_verdict) → Passed c.args.profile.now c.args.ingress.0 c.args.list.now
checked c =
    let a = c.args in
    passed a.profile.now a.ingress.0 a.list.now (sym c.read_verdict.ensures ∙ c.in_ok-read_verdict.was)

-- then the reading ends as the state says
ends : (c : After-read_list) (r : Result State Refusal) → c.read_list.result ≡ r
    → reading_of c.args.profile.now c.args.ingress.0 c.args.list.now ≡ read_of (state_stops c.args.list.now) r
ends c r e =
    let a = c.args in
    checks_passed a.profile.now a.ingress.0 a.list.now (read_of (state_stops a.list.now) r) (sym c.read_verdict.ensures ∙ c.in_ok-read_verdict.was)
    (sym (ap (read_of (state_stops a.list.now)) e) ∙ c.read_list.ensures.means)

pub returns-in_err-read_verdict : goal.returns-in_err-read_verdict
returns-in_err-read_verdict c =
    let a = c.args in
    let x = c.in_err-read_verdict.field-0.0 in
    let same : c.from_residual.result ≡ Err x = search rules in
    refused-is a.domains.now a.pinned.now a.pins.now a.counts.now a.exrs.now _ x same
    (outcome_of a.profile.now a.ingress.0 a.list.now _ _ _ (checks_refused a.profile.now a.ingress.0 a.list.now x (sym c.read_verdict.ensures ∙ c.in_err-read_verdict.was)))

pub read_list-requires-clause-whole_domains : goal.read_list-requires-clause-whole_domains
read_list-requires-clause-whole_domains c =
    let P = c.args.profile.now in
    let p = checked (goal.at.read_list-requires-clause-whole_domains c).In_ok-read_verdict in
    (whole-domains (layout_in P) P p.profile, short_areas (layout_in P) P p.profile, p.ingress)

pub read_list-requires-clause-list_len_bound : goal.read_list-requires-clause-list_len_bound
read_list-requires-clause-list_len_bound c = let p = checked (goal.at.read_list-requires-clause-list_len_bound c).In_ok-read_verdict in (p.size, p.form)

pub returns-in_err-st : goal.returns-in_err-st
returns-in_err-st c =
    let a = c.args in
    let x = c.in_err-st.field-0.0 in
    let same : c.from_residual-in_err-st.result ≡ Err x = search rules in
    refused-is a.domains.now a.pinned.now a.pins.now a.counts.now a.exrs.now _ x same
    (outcome_of a.profile.now a.ingress.0 a.list.now _ _ _ (ends (goal.at.returns-in_err-st c).After-read_list _ c.in_err-st.was))

pub put_sequence-requires : goal.put_sequence-requires
put_sequence-requires c =
    let kept = c.read_list.ensures.sound c.in_ok-st.st c.in_ok-st.was in
    (kept.0, kept.1, (checked (goal.at.put_sequence-requires c).In_ok-read_verdict).size)

pub returns : goal.returns
returns c =
    let a = c.args in
    same_outcome a.domains.now a.pinned.now a.pins.now a.counts.now a.exrs.now
    (outcome_of a.profile.now a.ingress.0 a.list.now _ _ _ (ends (goal.at.returns c).After-read_list _ c.in_ok-st.was))
    c.put_sequence.ensures
