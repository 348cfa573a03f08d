-- What is answered and left in the buffers is the outcome of `read_pcrep`: on a refusal nothing is written, else addresses and METRICs are.
use Rattle.std.specs.Prelude.{Ok, Err}
use Prim.Native.Nat.{ℕ}
use mathlib.Core.Path.{◌≡◌, sym, ap, ◌∙◌}
use mathlib.Core.List.{List, map}
use lib.ListN.{length}
use Rattle.model.specs.Verdict.{Verdict, Pass}
use Rattle.model.specs.declared.Refusal.{Refusal}
use Rattle.model.specs.Lists.{over}
use Rattle.laws.proofs.Lists.{over_nothing}
use Rattle.pcep_model.specs.declared.PcrepFields.{PcrepFields}
use Rattle.pcep_model.specs.Metrics.{metrics}
use Rattle.pcep_model.specs.Pcrep.{Reading, addresses_in, route_in, pcrep_fields, pcrep_verdict, answer_pcrep, read_pcrep, numbers_of_pcrep}
use Rattle.buffers.specs.Capacity.{least3}
use Rattle.pcep_metrics.specs.Along.{kind_of, flags_of, value_of}
use Rattle.pcep_reply_reader.specs.Reading.{reading, ReadBy}

module _ (s addresses kinds flags values : List ℕ) where
  abbrev pub judged : Verdict
  judged = pcrep_verdict s (length addresses) (least3 kinds flags values)

  outcome : (v : Verdict) → judged ≡ v → reading s addresses kinds flags values ≡ answer_pcrep v s
  unfolding read_pcrep
  outcome v e = ap (λ (x : Verdict). answer_pcrep x s) e

  pub read-refused : (x : Refusal) → judged ≡ Err x → ReadBy s addresses kinds flags values (Err x) addresses kinds flags values
  read-refused x e =
      let o = outcome (Err x) e in
      record {
        numbers = sym (ap (λ (p : Reading). p.numbers) o);
        in_addresses = sym (ap (λ (p : Reading). over p.addresses addresses) o ∙ over_nothing addresses);
        in_kinds = sym (ap (λ (p : Reading). over (map kind_of p.metrics) kinds) o ∙ over_nothing kinds);
        in_flags = sym (ap (λ (p : Reading). over (map flags_of p.metrics) flags) o ∙ over_nothing flags);
        in_values = sym (ap (λ (p : Reading). over (map value_of p.metrics) values) o ∙ over_nothing values);
      }

  pub read_done
      : (f : PcrepFields) (addresses' kinds' flags' values' : List ℕ) → judged ≡ Pass → f ≡ pcrep_fields s
      → addresses' ≡ over (addresses_in (route_in s)) addresses
      → kinds' ≡ over (map kind_of (metrics s)) kinds
      → flags' ≡ over (map flags_of (metrics s)) flags
      → values' ≡ over (map value_of (metrics s)) values
      → ReadBy s addresses kinds flags values (Ok f) addresses' kinds' flags' values'
  read_done f addresses' kinds' flags' values' e are a k g v =
      let o = outcome Pass e in
      record {
        numbers = ap (λ (x : PcrepFields). numbers_of_pcrep (Ok x)) are ∙ sym (ap (λ (p : Reading). p.numbers) o);
        in_addresses = a ∙ sym (ap (λ (p : Reading). over p.addresses addresses) o);
        in_kinds = k ∙ sym (ap (λ (p : Reading). over (map kind_of p.metrics) kinds) o);
        in_flags = g ∙ sym (ap (λ (p : Reading). over (map flags_of p.metrics) flags) o);
        in_values = v ∙ sym (ap (λ (p : Reading). over (map value_of p.metrics) values) o);
      }
