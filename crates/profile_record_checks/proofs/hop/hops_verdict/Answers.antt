-- `profile_record_checks::hop::hops_verdict` meets its contract. The loop's invariant: the records from `i` on decide, since those of each run passed. The measure is how many are left.
use Rattle.profile_records.proofs.Fields.{hop-within}
use Rattle.profile_records.specs.Layout.{layout_of, HopsWithin}
use Rattle.model.specs.Profile.{hop_count}
use borrow.Author.Rules.{rules}
use Rattle.profile_record_checks.proofs.Turned.{start, passed_to, refused, ended}
use mathlib.Core.Path.{sym, subst, ◌∙◌}
use native.Mathlib.Omega.{arith}
use Rattle.profile_record_checks.proofs.hop.hops_verdict.Goals as goal

pub loop-i-init : goal.loop-i-init
loop-i-init c = start _ c.hop_count-hops.result

pub hop_verdict-requires : goal.hop_verdict-requires
hop_verdict-requires c =
    let a = c.args in record {
      i_bound = omega arith;
      hop_within = hop-within (layout_of a.layout) a.s.now c.loop-i.i (hop_count a.s.now) c.requires
          (omega arith);
    }

pub returns-in_err-hop_verdict : goal.returns-in_err-hop_verdict
returns-in_err-hop_verdict c =
    let e = refused c.loop-i.invariant c.hop_count-hops.ensures c.loop-i-test.true (sym c.hop_verdict.ensures ∙ c.in_err-hop_verdict.was) in
    search rules

pub run_end-i-requires : goal.run_end-i-requires
run_end-i-requires c =
    let a = c.args in record {
      hops_within = (
        subst (HopsWithin (layout_of a.layout) a.s.now) (sym c.hop_count-hops.ensures) c.requires,
        c.loop-i-test.true,
        omega arith,
      );
      first_value = sym c.hop_verdict.ensures ∙ c.in_ok-hop_verdict.was;
    }

pub loop-i-smaller : goal.loop-i-smaller
loop-i-smaller c = omega (arith, c.run_end-i.ensures.further, c.loop-i-test.true)

pub loop-i-preserved : goal.loop-i-preserved
loop-i-preserved c =
    let r = c.run_end-i.ensures in
    passed_to c.loop-i.invariant (omega (arith, r.further)) r.within r.pass

pub returns : goal.returns
returns c = ended c.loop-i.invariant c.hop_count-hops.ensures c.loop-i-test.false
