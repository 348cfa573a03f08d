-- `pcep_ero::ero_verdict` meets its contract. The loop's invariant: what is left from the offset on is refused as the whole body is. The measure is what is left.
use mathlib.Core.Path.{◌≡◌, sym, ◌∙◌}
use Rattle.std.proofs.Common.{rules}
use Rattle.std.specs.Prelude.{Err}
use Rattle.pcep_ero.proofs.Addresses.{eight, verdict-end, verdict-refused, verdict_next}
use Rattle.pcep_ero.proofs.ero_verdict.Goals as goal

pub returns-in_err-step_verdict : goal.returns-in_err-step_verdict
returns-in_err-step_verdict c =
    let a = c.args in
    let l = c.loop-at in
    let r = c.in_err-step_verdict.field-0.0 in
    let out : c.from_residual.result ≡ Err r = search rules in
    out ∙ sym (verdict-refused a.body.now l.at c.loop-at-test.true r (sym c.step_verdict.ensures ∙ c.in_err-step_verdict.was)) ∙ l.invariant.decides

pub loop-at-preserved : goal.loop-at-preserved
loop-at-preserved c =
    let a = c.args in
    let l = c.loop-at in
    let e = sym c.step_verdict.ensures ∙ c.in_ok-step_verdict.was in
    record {
      reached = (eight a.body.now l.at e).whole;
      decides = sym (verdict_next a.body.now l.at c.loop-at-test.true e) ∙ l.invariant.decides;
    }

pub returns : goal.returns
returns c =
    let a = c.args in
    let l = c.loop-at in
    sym (verdict-end a.body.now l.at c.loop-at-test.false) ∙ l.invariant.decides
