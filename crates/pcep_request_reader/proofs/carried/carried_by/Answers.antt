-- `pcep_request_reader::carried::carried_by` meets its contract: what was taken apart, with the limits of its bits.
use Prim.Native.Nat.{ℕ}
use mathlib.Core.Path.{◌≡◌, refl, subst, ap, ◌∙◌}
use mathlib.Core.Bool.{Bool, true, false, not, cond}
use mathlib.Core.List.{List}
use lib.Dec.{eqb}
use Rattle.std.specs.Prelude.{Option, None, Some, unwrap_or}
use Rattle.std.specs.Option.{is_some, option_map}
use Rattle.model.specs.declared.Limits.{Limits}
use Rattle.model.specs.Request.{limits_of_bits}
use Rattle.request.specs.CheckedRequest.{request_of}
use Rattle.pcep_model.specs.Metrics.{value_at}
use Rattle.pcep_model.specs.Pcreq.{list_in, carried, judged_metric, bits_at}
use Rattle.pcep_request_reader.specs.declared.fields.PcreqParts.{PcreqParts}
use Rattle.pcep_request_reader.specs.ParsedPcreq.{PartsAre, ParsedPcreqIs}
use Rattle.pcep_request_reader.proofs.carried.carried_by.Goals as goal
use Rattle.pcep_request_reader.proofs.carried.carried_by.Goals.{In_ok-parts}

-- a bound counts where there is a METRIC to judge, and its bits are 0 where there is none
module _ (f : ℕ → ℕ) (n : ℕ) where
  counts_by : (none : Bool) → is_some (option_map f (cond none None (Some n))) ≡ not none
  counts_by true = refl
  counts_by false = refl

  bits_by : (none : Bool) → unwrap_or (option_map f (cond none None (Some n))) 0 ≡ cond none 0 (f n)
  bits_by true = refl
  bits_by false = refl

-- what was taken apart, with the limits of its bits, is the request carried
carried-request
    : (s : List ℕ) (t : PcreqParts) → PartsAre s t
    → (limits : Limits) → limits ≡ limits_of_bits t.fields.bandwidth (is_some t.bound) (unwrap_or t.bound 0)
    → (profile : List ℕ) (ingress : ℕ)
    → request_of profile ingress t.fields.source.0 t.fields.destination.0 (list_in s t.fields.include) (list_in s t.fields.exclude) limits ≡ carried profile ingress s
carried-request s t is limits e profile ingress =
    let j : ℕ = judged_metric s in
    let value : ℕ → ℕ = λ (at : ℕ). value_at s at in
    let counts : is_some t.bound ≡ not (eqb j 0) = ap is_some is.bound ∙ counts_by value j (eqb j 0) in
    let bits : unwrap_or t.bound 0 ≡ bits_at j (value_at s j) = ap (λ (o : Option ℕ). unwrap_or o 0) is.bound ∙ bits_by value j (eqb j 0) in
    rw (e, counts, bits, is.fields.are) refl

-- the parts are the message's
parts : (c : In_ok-parts) → PartsAre c.args.message.now c.in_ok-parts.parts
parts c = subst (ParsedPcreqIs c.args.message.now) c.in_ok-parts.was c.take_apart.ensures

pub returns : goal.returns
returns c =
    let s = c.args.message.now in
    let p = parts (goal.at.returns c).In_ok-parts in
    record {
      verdict = p.verdict;
      request = λ profile. carried-request s _ p _ c.limits_carried.ensures profile _;
      include-inside = p.fields.include-inside;
      exclude-inside = p.fields.exclude-inside;
    }
