-- A PCRep that the writer writes is read back: with enough room the reader answers the fields that were given, and writes the addresses and METRICs that
-- were given. Each field is read at its object, by cases on whether there is a path.
use Rattle.std.specs.Prelude.{Ok}
use Prim.Native.Nat.{ℕ, ◌+◌, ◌-◌, ◌*◌, ◌%◌, ◌≤◌, ◌<◌}
use native.Mathlib.Nat.{mod-lt, mod-eq_of_lt}
use native.Mathlib.Omega.{arith}
use mathlib.Core.Path.{◌≡◌, refl, ap, ap₂, ◌∙◌}
use mathlib.Core.Bool.{Bool, true, false, not, cond, ◌&&◌, ◌||◌}
use mathlib.Core.List.{List, [], ◌∷◌, ◌++◌}
use lib.ListN.{length, get_or}
use lib.Dec.{eqb, leb, ltb, lit<}
use borrow.Author.Tests.{le-ltb}
use Rattle.model.specs.Lists.{each}
use Rattle.model.specs.Bytes.{number, bytes_of, part}
use Rattle.model.specs.Verdict.{Verdict, Pass, refuse_if}
use Rattle.model.specs.Calls.{room_verdict}
use Rattle.laws.proofs.Numbers.{number_shift, number-bytes_of}
use Rattle.laws.proofs.Turns.{and_then_pass}
use Rattle.pcep_model.specs.declared.MessageKind.TheVariants.{Pcrep}
use Rattle.pcep_model.specs.Objects.{size_at, message_verdict}
use Rattle.pcep_model.specs.Metrics.{metrics, wrong_metric}
use Rattle.pcep_model.specs.Pcreq.{rp_flags_of, request_id_of}
use Rattle.pcep_model.specs.Pcrep.{ero_verdict, addresses_in, route_given, route_in, nature_of, c_flag_of, pcrep_fields, mark, numbers_of_pcrep, pcrep_verdict, answer_pcrep, read_pcrep, Reply, written_step, written_pcrep, write_verdict}
use Rattle.laws.proofs.InARow.{Stands, stands_get_or, stands_number, Each}
use Rattle.pcep_laws.proofs.WrittenObjects.{bytes_of_object, RightObject, size-read, body-read}
use Rattle.pcep_laws.proofs.WrittenEro.{Word, each_word, ero-passes, ero-read}
use Rattle.pcep_laws.proofs.WrittenPcrep.{rp_object, route_object, written_message, objects-right}
use Rattle.pcep_laws.proofs.PcrepFits.{Fits, Writes, writes}
use Rattle.pcep_laws.proofs.PcrepObjects.{sent, rp_stands, route_stands, rp_first, ero_first, no_path_first, message_passes, metrics-read, none_out_of_range}
pub use Rattle.pcep_laws.proofs.GivenFields.{given_addresses, given_fields}

-- ---- what was given, as reading gives it back

-- ---- RP's fields, where it stands

module _ (s : List ℕ) (at id flags : ℕ) (h : Stands s at (bytes_of_object (rp_object id flags))) where
  flags_stand : number 4 s (at + 4) % 64 ≡ flags % 64
  unfolding bytes_of
  flags_stand =
      let low : flags % 64 < 64 = mod-lt flags (lit< tt) in
      ap (λ (n : ℕ). n % 64)
      (stands_number s at (bytes_of_object (rp_object id flags)) h 4 4
      ∙ number_shift 4 (2 ∷ 18 ∷ 0 ∷ 12 ∷ []) (bytes_of 4 (flags % 64) ++ (bytes_of 4 id ++ h.after)) 0
      ∙ number-bytes_of 4 (flags % 64) (bytes_of 4 id ++ h.after) (omega arith))
      ∙ mod-eq_of_lt low

  id_stands : id < 4294967296 → number 4 s (at + 8) ≡ id
  unfolding bytes_of
  id_stands fits =
      stands_number s at (bytes_of_object (rp_object id flags)) h 4 8
      ∙ number_shift 4 (2 ∷ 18 ∷ 0 ∷ 12 ∷ bytes_of 4 (flags % 64)) (bytes_of 4 id ++ h.after) 0
      ∙ number-bytes_of 4 id h.after fits

-- ---- an ERO's or a NO-PATH's, with the places where each would stand first

topmost : (c : Bool) → leb 128 (128 * mark c) ≡ c
topmost true = refl
topmost false = refl

given : (found : Bool)
    → (not (eqb (cond found 16 0) 0) && (eqb (cond found 0 16) 0 || ltb (cond found 16 0) (cond found 0 16))) ≡ found
given true = refl
given false = refl

module _ (s : List ℕ) (addresses : List ℕ) (nature : ℕ) (c : Bool) where
  body-stands
      : (found : Bool)
      → Stands s 16 (bytes_of_object (route_object found addresses nature c))
      → RightObject Pcrep (route_object found addresses nature c)
      → cond found (part s (cond found 16 0 + 4) (size_at s (cond found 16 0) - 4)) [] ≡ each written_step (cond found addresses [])
  unfolding each
  body-stands true h right =
      let o = route_object true addresses nature c in
      body-read s 16 o h (size_at s 16 - 4) (ap (λ (n : ℕ). n - 4) (size-read s 16 o h right.short) ∙ omega arith)
  body-stands false h right = refl

  nature-stands
      : (found : Bool)
      → Stands s 16 (bytes_of_object (route_object found addresses nature c))
      → cond found 0 (get_or s (cond found 0 16 + 4) 0) ≡ cond found 0 nature
  unfolding bytes_of
  nature-stands true h = refl
  nature-stands false h = stands_get_or s 16 (bytes_of_object (route_object false addresses nature c)) h 4

  c-stands
      : (found : Bool)
      → Stands s 16 (bytes_of_object (route_object found addresses nature c))
      → (not found && leb 128 (get_or s (cond found 0 16 + 5) 0)) ≡ not found && c
  unfolding bytes_of
  c-stands true h = refl
  c-stands false h = ap (leb 128) (stands_get_or s 16 (bytes_of_object (route_object false addresses nature c)) h 5) ∙ topmost c

given_words : (found : Bool) (addresses : List ℕ) → Each Word addresses → Each Word (cond found addresses [])
given_words true addresses h = h
given_words false addresses h = tt

enough : (needed known room : ℕ) → needed ≡ known → known ≤ room → room_verdict needed room ≡ Pass
enough needed known room e h = ap (λ (b : Bool). refuse_if b 34 0) (le-ltb room needed (omega arith))

-- ---- the whole reading

module _ (r : Reply) (fits : Fits r) (w : Writes r) where
  found-read : route_given (sent r) ≡ r.found
  found-read =
      ap₂ (λ (x y : ℕ). not (eqb x 0) && (eqb y 0 || ltb x y)) (ero_first r fits w) (no_path_first r fits w) ∙ given r.found

  route-read : route_in (sent r) ≡ each written_step (given_addresses r)
  route-read =
      ap₂ (λ (b : Bool) (x : ℕ). cond b (part (sent r) (x + 4) (size_at (sent r) x - 4)) []) found-read (ero_first r fits w)
      ∙ body-stands (sent r) r.addresses r.nature r.c_flag r.found (route_stands r fits w) (objects-right r w.short).1.0

  words : Each Word (given_addresses r)
  words = given_words r.found r.addresses (each_word r.addresses fits.addresses-fit)

  addresses-read : addresses_in (route_in (sent r)) ≡ given_addresses r
  addresses-read = ap addresses_in route-read ∙ ero-read (given_addresses r) words

  id_read : request_id_of (sent r) ≡ r.request_id
  id_read = ap (λ (n : ℕ). number 4 (sent r) (n + 8)) (rp_first r fits w) ∙ id_stands (sent r) 4 r.request_id r.rp_flags (rp_stands r fits w) fits.id_fits

  flags-read : rp_flags_of (sent r) ≡ r.rp_flags % 64
  flags-read = ap (λ (n : ℕ). number 4 (sent r) (n + 4) % 64) (rp_first r fits w) ∙ flags_stand (sent r) 4 r.request_id r.rp_flags (rp_stands r fits w)

  nature-read : nature_of (sent r) ≡ cond r.found 0 r.nature
  nature-read =
      ap₂ (λ (b : Bool) (x : ℕ). cond b 0 (get_or (sent r) (x + 4) 0)) found-read (no_path_first r fits w)
      ∙ nature-stands (sent r) r.addresses r.nature r.c_flag r.found (route_stands r fits w)

  c_read : c_flag_of (sent r) ≡ not r.found && r.c_flag
  c_read =
      ap₂ (λ (b : Bool) (x : ℕ). not b && leb 128 (get_or (sent r) (x + 5) 0)) found-read (no_path_first r fits w)
      ∙ c-stands (sent r) r.addresses r.nature r.c_flag r.found (route_stands r fits w)

  fields_read : pcrep_fields (sent r) ≡ given_fields r
  fields_read =
      λ i.
      record {
        id = id_read i;
        flags = flags-read i;
        found = found-read i;
        nature = nature-read i;
        c = c_read i;
        addresses = length (addresses-read i);
        metrics = length (metrics-read r fits w i);
      }

  module _ (address_room metric_room : ℕ) (ra : length (given_addresses r) ≤ address_room) (rm : length r.metrics ≤ metric_room) where
    passes : pcrep_verdict (sent r) address_room metric_room ≡ Pass
    unfolding pcrep_verdict
    passes =
        let wrong : refuse_if (not (eqb (wrong_metric (sent r)) 0)) 21 1 ≡ Pass =
        ap (λ (n : ℕ). refuse_if (not (eqb n 0)) 21 1) (none_out_of_range r fits w) in
        let ero : ero_verdict (route_in (sent r)) ≡ Pass = ap ero_verdict route-read ∙ ero-passes (given_addresses r) words in
        let for_addresses : room_verdict (length (addresses_in (route_in (sent r)))) address_room ≡ Pass =
        enough (length (addresses_in (route_in (sent r)))) (length (given_addresses r)) address_room (ap length addresses-read) ra in
        let for_metrics : room_verdict (length (metrics (sent r))) metric_room ≡ Pass =
        enough (length (metrics (sent r))) (length r.metrics) metric_room (ap length (metrics-read r fits w)) rm in
        (and_then_pass _ (room_verdict (length (metrics (sent r))) metric_room)).1 (
          (and_then_pass _ (room_verdict (length (addresses_in (route_in (sent r)))) address_room)).1 (
            (and_then_pass _ (ero_verdict (route_in (sent r)))).1
                ((and_then_pass (message_verdict Pcrep (sent r)) (refuse_if (not (eqb (wrong_metric (sent r)) 0)) 21 1)).1 (message_passes r fits w, wrong), ero),
            for_addresses,
          ),
          for_metrics,
        )

    sent-read
        : read_pcrep (sent r) address_room metric_room
        ≡ record { numbers = numbers_of_pcrep (Ok (given_fields r)); addresses = given_addresses r; metrics = r.metrics }
    unfolding read_pcrep
    sent-read =
        ap (λ (v : Verdict). answer_pcrep v (sent r)) passes
        ∙ (λ i. record { numbers = numbers_of_pcrep (Ok (fields_read i)); addresses = addresses-read i; metrics = metrics-read r fits w i })

-- Document 02's request [3]: METRICs keep each field bit for bit.
pub metrics-written-bit-for-bit
    : (r : Reply) (unequal : Bool) (room : ℕ) → Fits r → write_verdict r unequal room ≡ Pass → metrics (written_pcrep r) ≡ r.metrics
metrics-written-bit-for-bit r unequal room fits e = ap metrics (written_message r) ∙ metrics-read r fits (writes r unequal room e)

-- and what is written is read back
pub pcrep-reads-back
    : (r : Reply) (unequal : Bool) (room : ℕ) → Fits r → write_verdict r unequal room ≡ Pass
    → (address_room metric_room : ℕ) → length (given_addresses r) ≤ address_room → length r.metrics ≤ metric_room
    → read_pcrep (written_pcrep r) address_room metric_room
    ≡ record { numbers = numbers_of_pcrep (Ok (given_fields r)); addresses = given_addresses r; metrics = r.metrics }
pcrep-reads-back r unequal room fits e address_room metric_room ra rm =
    ap (λ (s : List ℕ). read_pcrep s address_room metric_room) (written_message r) ∙ sent-read r fits (writes r unequal room e) address_room metric_room ra rm
