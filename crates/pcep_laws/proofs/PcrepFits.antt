-- What the machine's types say of the fields of a reply that is written, and what the writer's verdict says: the message has at most 65535 bytes, and no
-- METRIC is out of range. By taking its tests apart.
use Prim.Native.Nat.{ℕ, ◌<◌}
use native.Mathlib.Omega.{arith}
use mathlib.Core.Path.{◌≡◌}
use mathlib.Core.Bool.{Bool, false, ◌||◌}
use mathlib.Core.List.{List, [], ◌∷◌}
use lib.ListN.{length, get_or}
use lib.Dec.{ltb}
use borrow.Author.Tests.{ltb-false}
use Rattle.model.specs.Verdict.{Pass}
use Rattle.model.specs.Lists.{any}
use Rattle.laws.proofs.Tests.{or_neither}
use Rattle.laws.proofs.Turns.{and_then-refuse_if, refuse_if_pass}
use Rattle.pcep_model.specs.Metrics.{Metric, out_of_range}
use Rattle.pcep_model.specs.Pcrep.{Reply, written_pcrep, write_verdict}
use Rattle.laws.proofs.InARow.{Each}

pub record MetricFits (m : Metric) : Type 0 where
  pub kind_fits : m.kind < 256
  pub flags-fit : m.flags < 256
  pub value-fits : m.value < 4294967296

pub record Fits (r : Reply) : Type 0 where
  pub id_fits : r.request_id < 4294967296
  pub nature-fits : r.nature < 256
  pub addresses-fit : (i : ℕ) → get_or r.addresses i 0 < 4294967296
  pub metrics-fit : Each MetricFits r.metrics

-- ---- the writer's verdict

pub record Writes (r : Reply) : Type 0 where
  pub short : length (written_pcrep r) < 65536
  pub in_range_lem : any (λ (m : Metric). out_of_range m.value) r.metrics ≡ false

pub writes : (r : Reply) (unequal : Bool) (room : ℕ) → write_verdict r unequal room ≡ Pass → Writes r
unfolding write_verdict
writes r unequal room e =
    let two = (and_then-refuse_if _ (ltb room (length (written_pcrep r))) 34 0).0 e in
    let one = (and_then-refuse_if _ (any (λ (m : Metric). out_of_range m.value) r.metrics) 21 1).0 two.0 in
    let first = (refuse_if_pass (unequal || ltb 65535 (length (written_pcrep r))) 37 0).0 one.0 in
    let long = ltb-false 65535 (length (written_pcrep r)) (or_neither unequal (ltb 65535 (length (written_pcrep r))) first).1 in
    record { short = omega arith; in_range_lem = one.1 }

pub each_in_range : (ms : List Metric) → any (λ (m : Metric). out_of_range m.value) ms ≡ false → Each (λ (m : Metric). out_of_range m.value ≡ false) ms
each_in_range [] e = tt
each_in_range (m ∷ ms) e =
    let b = or_neither (out_of_range m.value) (any (λ (x : Metric). out_of_range x.value) ms) e in
    (b.0, each_in_range ms b.1)
