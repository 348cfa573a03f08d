-- `profile_record_checks::domain::domains_verdict` meets its contract. The loop's invariant: the records from `i` on decide.
use borrow.Author.Rules.{rules}
use Rattle.profile_record_checks.proofs.Turned.{start, passed, refused, ended}
use mathlib.Core.Path.{sym, ◌∙◌}
use native.Mathlib.Omega.{arith}
use Rattle.profile_record_checks.proofs.domain.domains_verdict.Goals as goal

pub loop-i-init : goal.loop-i-init
loop-i-init c = start _ c.domain_count-domains.result

pub domain_verdict-requires : goal.domain_verdict-requires
domain_verdict-requires c = (omega arith, omega arith)

pub returns-in_err-domain_verdict : goal.returns-in_err-domain_verdict
returns-in_err-domain_verdict c =
    let e = refused c.loop-i.invariant c.domain_count-domains.ensures c.loop-i-test.true (sym c.domain_verdict.ensures ∙ c.in_err-domain_verdict.was) in
    search rules

pub loop-i-preserved : goal.loop-i-preserved
loop-i-preserved c = passed c.loop-i.invariant c.loop-i-test.true (sym c.domain_verdict.ensures ∙ c.in_ok-domain_verdict.was)

pub returns : goal.returns
returns c = ended c.loop-i.invariant c.domain_count-domains.ensures c.loop-i-test.false
