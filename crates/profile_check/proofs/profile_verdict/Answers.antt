-- `profile_check::profile_verdict` meets its contract: a header that passed says that every record lies in the file, and hop records that passed are in order.
use borrow.Author.Rules.{rules}
use Rattle.profile_check.proofs.Passed.{passed-header}
use Rattle.profile_records.specs.Layout.{layout_of}
use Rattle.model.specs.Profile.{profile_verdict}
use mathlib.Core.Path.{sym, ◌∙◌}
use native.Mathlib.Omega.{arith}
use Rattle.profile_check.proofs.profile_verdict.Goals as goal

pub returns-in_err-header_verdict : goal.returns-in_err-header_verdict
unfolding profile_verdict
returns-in_err-header_verdict c = search rules

pub domains_verdict-requires : goal.domains_verdict-requires
domains_verdict-requires c =
    let p = passed-header (layout_of c.args.layout) c.args.s.now (sym c.header_verdict.ensures ∙ c.in_ok-header_verdict.was) in
    omega arith

pub returns-in_err-domains_verdict : goal.returns-in_err-domains_verdict
unfolding profile_verdict
returns-in_err-domains_verdict c = search rules

pub hops_verdict-requires : goal.hops_verdict-requires
hops_verdict-requires c =
    let p = passed-header (layout_of c.args.layout) c.args.s.now (sym c.header_verdict.ensures ∙ c.in_ok-header_verdict.was) in
    record { layout = c.requires; inside = omega arith }

pub returns-in_err-hops_verdict : goal.returns-in_err-hops_verdict
unfolding profile_verdict
returns-in_err-hops_verdict c = search rules

pub crowded_verdict-requires : goal.crowded_verdict-requires
crowded_verdict-requires c =
    let p = passed-header (layout_of c.args.layout) c.args.s.now (sym c.header_verdict.ensures ∙ c.in_ok-header_verdict.was) in record {
      hops_within = record { layout = c.requires; inside = omega arith };
      s_value = sym c.hops_verdict.ensures ∙ c.in_ok-hops_verdict.was;
    }

pub returns : goal.returns
unfolding profile_verdict
returns c = search rules
