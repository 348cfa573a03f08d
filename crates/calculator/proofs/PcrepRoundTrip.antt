-- The round trip of a reply, from the contracts of the two calls: a PCRep that `write_pcrep` wrote, read by `read_pcrep` into buffers that have the room, gives
-- the fields, the addresses and the METRICs that were given, bit for bit.
use Prim.Native.Nat.{ℕ, ◌≤◌}
use native.Mathlib.Omega.{arith}
use mathlib.Core.Path.{◌≡◌, refl, ap, ap₂, ◌∙◌}
use mathlib.Core.Bool.{Bool, true, false, ◌||◌}
use mathlib.Core.List.{List, [], ◌∷◌, map}
use lib.ListN.{length, take}
use lib.Dec.{ltb}
use Rattle.std.specs.Prelude.{Result, Ok}
use Rattle.model.specs.declared.Refusal.{Refusal}
use Rattle.model.specs.Lists.{any, over}
use Rattle.model.specs.Verdict.{Verdict, Pass, refuse_if, ◌and_then◌}
use Rattle.model.specs.Answers.{Numbers, numbers_of_write}
use Rattle.model.specs.Calls.{answer_write}
use Rattle.laws.proofs.Lists.{over-take}
use Rattle.pcep_model.specs.declared.PcrepFields.{PcrepFields}
use Rattle.pcep_model.specs.Metrics.{Metric, out_of_range}
use Rattle.pcep_model.specs.Pcrep.{Reply, Reading, written_pcrep, write_verdict, write_pcrep, read_pcrep, numbers_of_pcrep}
use Rattle.pcep_laws.proofs.PcrepFits.{Fits}
use Rattle.pcep_laws.proofs.PcrepReadsBack.{given_fields, given_addresses, pcrep-reads-back}
use Rattle.buffers.specs.Capacity.{least3}
use Rattle.pcep_metrics.specs.Along.{kind_of, flags_of, value_of}
use Rattle.pcep_reply_writer.specs.Writing.{WrittenReply}
use Rattle.pcep_reply_reader.specs.Reading.{reading, ReadBy}

-- the second of the other numbers
second : List ℕ → ℕ
second [] = 0
second (x ∷ []) = 0
second (x ∷ y ∷ ys) = y

-- an answer that n bytes are written comes from checks that pass, and n is the message's length
told
    : (a b c : Bool) (bytes : List ℕ) (n : ℕ)
    → numbers_of_write (Ok n) ≡ (answer_write (refuse_if a 37 0 and_then refuse_if b 21 1 and_then refuse_if c 34 0) bytes).numbers
    → (refuse_if a 37 0 and_then refuse_if b 21 1 and_then refuse_if c 34 0 ≡ Pass) × (n ≡ length bytes)
unfolding second
told true b c bytes n e = let z = ap (λ (x : Numbers). x.answer) e in absurd (omega arith)
told false true c bytes n e = let z = ap (λ (x : Numbers). x.answer) e in absurd (omega arith)
told false false true bytes n e = let z = ap (λ (x : Numbers). x.answer) e in absurd (omega arith)
told false false false bytes n e = (refl, ap (λ (x : Numbers). second x.others) e)

-- what comes back
pub record ReadBack (r : Reply) (addresses kinds flags values : List ℕ) (answer : Result PcrepFields Refusal) (a' k' f' v' : List ℕ) : Type 0 where
  pub fields : numbers_of_pcrep answer ≡ numbers_of_pcrep (Ok (given_fields r))
  pub in_addresses : a' ≡ over (given_addresses r) addresses
  pub in_kinds : k' ≡ over (map kind_of r.metrics) kinds
  pub in_flags : f' ≡ over (map flags_of r.metrics) flags
  pub in_values : v' ≡ over (map value_of r.metrics) values

module _ (r : Reply) (unequal : Bool) (entry exit : List ℕ) (n : ℕ) (fits : Fits r) (w : WrittenReply r unequal entry exit (Ok n)) where
  wrote : (write_verdict r unequal (length entry) ≡ Pass) × (n ≡ length (written_pcrep r))
  unfolding write_pcrep write_verdict
  wrote =
      told (unequal || ltb 65535 (length (written_pcrep r))) (any (λ (m : Metric). out_of_range m.value) r.metrics) (ltb (length entry) (length (written_pcrep r))) (written_pcrep r) n
      w.numbers

  -- the first n bytes of the buffer are the message
  same_bytes : take n exit ≡ written_pcrep r
  unfolding write_pcrep
  same_bytes =
      let bytes : (write_pcrep r unequal (length entry)).written ≡ written_pcrep r = ap (λ (v : Verdict). (answer_write v (written_pcrep r)).written) wrote.0 in
      ap₂ (λ (k : ℕ) (s : List ℕ). take k s) wrote.1 (w.buffer ∙ ap (λ (s : List ℕ). over s entry) bytes) ∙ over-take (written_pcrep r) entry

  pub pcrep-round-trip
      : (addresses kinds flags values : List ℕ) (answer : Result PcrepFields Refusal) (a' k' f' v' : List ℕ)
      → length (given_addresses r) ≤ length addresses
      → length r.metrics ≤ least3 kinds flags values
      → ReadBy (take n exit) addresses kinds flags values answer a' k' f' v'
      → ReadBack r addresses kinds flags values answer a' k' f' v'
  pcrep-round-trip addresses kinds flags values answer a' k' f' v' room metric-room is =
      let given : Reading = record { numbers = numbers_of_pcrep (Ok (given_fields r)); addresses = given_addresses r; metrics = r.metrics } in
      let read : reading (take n exit) addresses kinds flags values ≡ given =
      ap (λ (s : List ℕ). read_pcrep s (length addresses) (least3 kinds flags values)) same_bytes
      ∙ pcrep-reads-back r unequal (length entry) fits wrote.0 (length addresses) (least3 kinds flags values) room metric-room in
      record {
        fields = is.numbers ∙ ap (λ (x : Reading). x.numbers) read;
        in_addresses = is.in_addresses ∙ ap (λ (x : Reading). over x.addresses addresses) read;
        in_kinds = is.in_kinds ∙ ap (λ (x : Reading). over (map kind_of x.metrics) kinds) read;
        in_flags = is.in_flags ∙ ap (λ (x : Reading). over (map flags_of x.metrics) flags) read;
        in_values = is.in_values ∙ ap (λ (x : Reading). over (map value_of x.metrics) values) read;
      }
