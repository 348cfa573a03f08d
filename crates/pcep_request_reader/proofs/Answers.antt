-- What is answered and left in the buffers is the outcome of `read_pcreq`: on a refusal nothing is written, else the METRICs are.
use Rattle.std.specs.Prelude.{Ok, Err}
use Prim.Native.Nat.{ℕ}
use mathlib.Core.Path.{◌≡◌, sym, ap, ◌∙◌}
use mathlib.Core.List.{List, map}
use Rattle.model.specs.Verdict.{Verdict, Pass}
use Rattle.model.specs.declared.Refusal.{Refusal}
use Rattle.model.specs.Lists.{over}
use Rattle.model.specs.Calls.{Outcome}
use Rattle.laws.proofs.Lists.{over_nothing}
use Rattle.pcep_model.specs.declared.PcreqFields.{PcreqFields}
use Rattle.pcep_model.specs.Metrics.{Metric, metrics}
use Rattle.pcep_model.specs.Pcreq.{pcreq_fields, pcreq_verdict, answer_pcreq, read_pcreq, numbers_of_pcreq}
use Rattle.buffers.specs.Capacity.{least3}
use Rattle.pcep_metrics.specs.Along.{kind_of, flags_of, value_of}
use Rattle.pcep_request_reader.specs.Reading.{ReadBy}

module _ (s kinds flags values : List ℕ) where
  abbrev room : ℕ
  room = least3 kinds flags values

  outcome : (v : Verdict) → pcreq_verdict s room ≡ v → read_pcreq s room ≡ answer_pcreq v s
  unfolding read_pcreq
  outcome v e = ap (λ (x : Verdict). answer_pcreq x s) e

  pub read-refused : (x : Refusal) → pcreq_verdict s room ≡ Err x → ReadBy s kinds flags values (Err x) kinds flags values
  read-refused x e =
      let o = outcome (Err x) e in
      record {
        numbers = sym (ap (λ (p : Outcome Metric). p.numbers) o);
        in_kinds = sym (ap (λ (p : Outcome Metric). over (map kind_of p.written) kinds) o ∙ over_nothing kinds);
        in_flags = sym (ap (λ (p : Outcome Metric). over (map flags_of p.written) flags) o ∙ over_nothing flags);
        in_values = sym (ap (λ (p : Outcome Metric). over (map value_of p.written) values) o ∙ over_nothing values);
      }

  pub read_done
      : (f : PcreqFields) (kinds' flags' values' : List ℕ) → pcreq_verdict s room ≡ Pass → f ≡ pcreq_fields s
      → kinds' ≡ over (map kind_of (metrics s)) kinds
      → flags' ≡ over (map flags_of (metrics s)) flags
      → values' ≡ over (map value_of (metrics s)) values
      → ReadBy s kinds flags values (Ok f) kinds' flags' values'
  read_done f kinds' flags' values' e are k g v =
      let o = outcome Pass e in
      record {
        numbers = ap (λ (x : PcreqFields). numbers_of_pcreq (Ok x)) are ∙ sym (ap (λ (p : Outcome Metric). p.numbers) o);
        in_kinds = k ∙ sym (ap (λ (p : Outcome Metric). over (map kind_of p.written) kinds) o);
        in_flags = g ∙ sym (ap (λ (p : Outcome Metric). over (map flags_of p.written) flags) o);
        in_values = v ∙ sym (ap (λ (p : Outcome Metric). over (map value_of p.written) values) o);
      }
