-- `pcep_request_reader::fields::parts_of` meets its contract: the METRIC judged is the definition's, and stands in the message.
use Prim.Native.Nat.{ℕ, ◌+◌, ◌≤◌}
use mathlib.Core.Path.{◌≡◌, ap, ◌∙◌}
use native.Mathlib.Omega.{arith}
use lib.ListN.{length}
use Rattle.std.specs.Option.{option_map}
use Rattle.pcep_model.specs.Metrics.{value_at, wrong_metric}
use Rattle.pcep_model.specs.Pcreq.{judged_metric}
use Rattle.pcep_laws.specs.Firsts.{placed}
use Rattle.pcep_laws.proofs.Firsts.{for_placed, some-is}
use Rattle.pcep_request_reader.proofs.Standing.{judged_stands, judged_placed, passed, framed}
use Rattle.pcep_request_reader.proofs.fields.parts_of.Goals as goal
use Rattle.pcep_request_reader.proofs.fields.parts_of.Goals.{After-judged}

-- the METRIC judged is the definition's
judged-is : (c : After-judged) → c.judged.result ≡ placed (judged_metric c.args.message.now)
judged-is c =
    let j = c.judge-met.ensures in
    c.judged.ensures ∙ judged_placed c.args.message.now c.judge-met.result.wrong c.judge-met.result.bound j.wrong j.bound

pub judge-met-requires : goal.judge-met-requires
judge-met-requires c = passed c.args.message.now c.args.firsts c.requires

pub fields_of-requires : goal.fields_of-requires
fields_of-requires c =
    framed c.args.message.now c.args.firsts c.requires _ c.judge-met.ensures.count c.judge-met.ensures.most

pub value_of-requires : goal.value_of-requires
value_of-requires c =
    let s = c.args.message.now in
    let f = c.requires in
    (f.short, for_placed c.judged.result (judged_metric s) (judged-is (goal.at.value_of-requires c).After-judged) (λ (at : ℕ). at + 12 ≤ length s) (λ some. let o = judged_stands s f.objects some in omega (arith, o.long, o.inside)))

pub returns : goal.returns
returns c =
    let s = c.args.message.now in
    let f = c.requires in
    record {
      verdict = f.verdict;
      passed = passed s c.args.firsts f;
      fields = c.fields_of.ensures;
      bound = c.value_of.ensures ∙ ap (option_map (λ (at : ℕ). value_at s at)) (judged-is (goal.at.returns c).After-judged);
      wrong = c.is_some.ensures ∙ some-is c.judge-met.result.wrong (wrong_metric s) c.judge-met.ensures.wrong;
    }
