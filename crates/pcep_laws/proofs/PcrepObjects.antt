-- The objects of a written PCRep, as they are met: RP at 4, ERO or NO-PATH at 16, and the METRICs behind, bit for bit as given and none out of range.
-- So the message passes.
use Prim.Native.Nat.{ℕ, ◌+◌, ◌<◌}
use native.Mathlib.Omega.{arith}
use mathlib.Core.Path.{◌≡◌, refl, ap, ap₂, ◌∙◌}
use mathlib.Core.Bool.{Bool, true, false, cond, ◌&&◌}
use mathlib.Core.List.{List, [], ◌∷◌, ◌++◌, map, map-id}
use lib.ListN.{length}
use lib.Dec.{eqb}
use Rattle.model.specs.Lists.{keep_if, keep, each}
use Rattle.model.specs.Bytes.{bytes_of}
use Rattle.model.specs.Verdict.{Pass, refuse_if}
use Rattle.laws.proofs.Lists.{keep_all}
use Rattle.laws.proofs.Numbers.{number_shift, number-bytes_of}
use Rattle.laws.proofs.Turns.{and_then_pass, and_then-refuse_if, refuse_if_pass}
use Rattle.pcep_model.specs.declared.MessageKind.TheVariants.{Pcrep}
use Rattle.model.specs.Along.{or_else, first_of}
use Rattle.pcep_model.specs.Objects.{RP, NO-PATH, METRIC, ERO, is_object, objects_in, objects_verdict, first_object, header_wrong, message_verdict}
use Rattle.pcep_model.specs.Metrics.{Metric, value_at, metric_at, metrics, out_of_range, wrong_metric}
use Rattle.pcep_model.specs.Pcrep.{Reply, written_metric}
use Rattle.laws.proofs.InARow.{Stands, stands_get_or, stands_number, Each, Row, offsets, first_at, first-none, kept_row, first-row}
use Rattle.pcep_laws.proofs.WrittenObjects.{Object, bytes_of_object, RightObject, object_read, objects_pass, objects-placed, message, message_length_lem, message_row, header-right, first_read}
use Rattle.pcep_laws.proofs.WrittenPcrep.{rp_object, route_object, metric_object, objects_of, written_message, objects-right}
use Rattle.pcep_laws.proofs.PcrepFits.{MetricFits, Fits, Writes, each_in_range}

-- ---- METRICs in a row

metrics-row : (s : List ℕ) (at : ℕ) (ms : List Metric) → Row bytes_of_object s at (map metric_object ms) → Row written_metric s at ms
metrics-row s at [] w = w
metrics-row s at (m ∷ ms) w = (w.0, metrics-row s (at + length (written_metric m)) ms w.1)

metrics_offsets : (at : ℕ) (ms : List Metric) → offsets bytes_of_object at (map metric_object ms) ≡ offsets written_metric at ms
metrics_offsets at [] = refl
metrics_offsets at (m ∷ ms) = ap {B = List ℕ} (λ (l : List ℕ). at ∷ l) (metrics_offsets (at + length (written_metric m)) ms)

-- no METRIC is of another class
no_metric : (c : ℕ) → eqb METRIC c ≡ false → (at : ℕ) (ms : List Metric) → first_at bytes_of_object (λ (o : Object). eqb o.class c && true) at (map metric_object ms) ≡ 0
no_metric c e at ms = first-none bytes_of_object (λ (o : Object). eqb o.class c && true) at (map metric_object ms) (go ms)
  where
    go : (l : List Metric) → Each (λ (o : Object). (eqb o.class c && true) ≡ false) (map metric_object l)
    go [] = tt
    go (m ∷ l) = (ap (λ (b : Bool). b && true) e, go l)

module _ (s : List ℕ) (at : ℕ) (m : Metric) (h : Stands s at (written_metric m)) (fits : MetricFits m) where
  value_read : value_at s at ≡ m.value
  unfolding bytes_of
  value_read =
      stands_number s at (written_metric m) h 4 8
      ∙ number_shift 4 (6 ∷ 16 ∷ 0 ∷ 12 ∷ 0 ∷ 0 ∷ m.flags ∷ m.kind ∷ []) (bytes_of 4 m.value ++ h.after) 0
      ∙ number-bytes_of 4 m.value h.after fits.value-fits

  metric-read : metric_at s at ≡ m
  unfolding bytes_of
  metric-read = λ i. record { kind = stands_get_or s at (written_metric m) h 7 i; flags = stands_get_or s at (written_metric m) h 6 i; value = value_read i }

module _ (s : List ℕ) (at : ℕ) (ms : List Metric) (row : Row written_metric s at ms) (fits : Each MetricFits ms) where
  metrics-kept : map (metric_at s) (keep (is_object METRIC s) (offsets written_metric at ms)) ≡ ms
  metrics-kept =
      kept_row written_metric s MetricFits (is_object METRIC s) (metric_at s) (λ (m : Metric). true) (λ (m : Metric). m)
      (λ a m h f. object_read s a (metric_object m) h METRIC) (λ a m h f t. metric-read s a m h f) at ms row fits
      ∙ ap (map (λ (m : Metric). m)) (keep_all (λ (m : Metric). true) ms (λ x m. refl))
      ∙ map-id ms

  none_wrong
      : Each (λ (m : Metric). out_of_range m.value ≡ false) ms
      → first_of (λ (a : ℕ). is_object METRIC s a && out_of_range (value_at s a)) (offsets written_metric at ms) ≡ 0
  none_wrong right =
      first-row written_metric s MetricFits (λ (a : ℕ). is_object METRIC s a && out_of_range (value_at s a)) (λ (m : Metric). out_of_range m.value)
      (λ a m h f. ap₂ (λ (b : Bool) (x : ℕ). b && out_of_range x) (object_read s a (metric_object m) h METRIC) (value_read s a m h f))
      at ms row fits
      ∙ first-none written_metric (λ (m : Metric). out_of_range m.value) at ms right

-- ---- where the others stand

module _ (id flags : ℕ) (addresses : List ℕ) (nature : ℕ) (c : Bool) (ms : List Metric) where
  ero-placed
      : (found : Bool)
      → first_at bytes_of_object (λ (o : Object). eqb o.class ERO && true) 4 (rp_object id flags ∷ route_object found addresses nature c ∷ map metric_object ms)
      ≡ cond found 16 0
  unfolding bytes_of
  ero-placed true = refl
  ero-placed false = no_metric ERO refl _ ms

  no-path-placed
      : (found : Bool)
      → first_at bytes_of_object (λ (o : Object). eqb o.class NO-PATH && true) 4 (rp_object id flags ∷ route_object found addresses nature c ∷ map metric_object ms)
      ≡ cond found 0 16
  unfolding bytes_of
  no-path-placed true = no_metric NO-PATH refl _ ms
  no-path-placed false = refl

other-class : (found : Bool) (addresses : List ℕ) (nature : ℕ) (c : Bool) → (eqb (route_object found addresses nature c).class METRIC && true) ≡ false
other-class true addresses nature c = refl
other-class false addresses nature c = refl

some_route : (found : Bool) → (eqb (cond found 16 0) 0 && eqb (cond found 0 16) 0) ≡ false
some_route true = refl
some_route false = refl

-- the message as its objects
abbrev pub sent : Reply → List ℕ
sent r = message Pcrep (objects_of r)

module _ (r : Reply) (fits : Fits r) (w : Writes r) where
  right : Each (RightObject Pcrep) (objects_of r)
  right = objects-right r w.short

  row : Row bytes_of_object (sent r) 4 (objects_of r)
  row = message_row Pcrep (objects_of r) right

  pub rp_stands : Stands (sent r) 4 (bytes_of_object (rp_object r.request_id r.rp_flags))
  rp_stands = row.0

  pub route_stands : Stands (sent r) 16 (bytes_of_object (route_object r.found r.addresses r.nature r.c_flag))
  unfolding bytes_of
  route_stands = row.1.0

  pub rp_first : first_object RP (sent r) ≡ 4
  rp_first = first_read Pcrep (objects_of r) right RP

  pub ero_first : first_object ERO (sent r) ≡ cond r.found 16 0
  ero_first = first_read Pcrep (objects_of r) right ERO ∙ ero-placed r.request_id r.rp_flags r.addresses r.nature r.c_flag r.metrics r.found

  pub no_path_first : first_object NO-PATH (sent r) ≡ cond r.found 0 16
  no_path_first =
      first_read Pcrep (objects_of r) right NO-PATH ∙ no-path-placed r.request_id r.rp_flags r.addresses r.nature r.c_flag r.metrics r.found

  short : 4 + length (each bytes_of_object (objects_of r)) < 65536
  short = omega (arith, w.short, ap length (written_message r), message_length_lem Pcrep (objects_of r))

  pub message_passes : message_verdict Pcrep (sent r) ≡ Pass
  unfolding message_verdict
  message_passes =
      (and_then-refuse_if _ (eqb (first_object ERO (sent r)) 0 && eqb (first_object NO-PATH (sent r)) 0) 41 0).1 (
        (and_then-refuse_if _ (eqb (first_object RP (sent r)) 0) 39 0).1 (
          (and_then_pass (refuse_if (header_wrong Pcrep (sent r)) 36 0) (objects_verdict Pcrep (sent r) 4)).1
              ((refuse_if_pass (header_wrong Pcrep (sent r)) 36 0).1 (header-right Pcrep (objects_of r) right short), objects_pass Pcrep (sent r) 4 (objects_of r) row right),
          ap (λ (n : ℕ). eqb n 0) rp_first,
        ),
        ap₂ (λ (x y : ℕ). eqb x 0 && eqb y 0) ero_first no_path_first ∙ some_route r.found,
      )

  -- ---- the METRICs

  abbrev behind : ℕ
  behind = 16 + length (bytes_of_object (route_object r.found r.addresses r.nature r.c_flag))

  placed : objects_in (sent r) 4 ≡ 4 ∷ 16 ∷ offsets written_metric behind r.metrics
  unfolding bytes_of
  placed = objects-placed Pcrep (sent r) 4 (objects_of r) row right ∙ ap {B = List ℕ} (λ (l : List ℕ). 4 ∷ 16 ∷ l) (metrics_offsets behind r.metrics)

  behind-row : Row written_metric (sent r) behind r.metrics
  unfolding bytes_of
  behind-row = metrics-row (sent r) behind r.metrics row.1.1

  -- RP and ERO or NO-PATH are none
  rp-other : is_object METRIC (sent r) 4 ≡ false
  rp-other = object_read (sent r) 4 (rp_object r.request_id r.rp_flags) rp_stands METRIC

  route-other : is_object METRIC (sent r) 16 ≡ false
  route-other =
      object_read (sent r) 16 (route_object r.found r.addresses r.nature r.c_flag) route_stands METRIC ∙ other-class r.found r.addresses r.nature r.c_flag

  pub metrics-read : metrics (sent r) ≡ r.metrics
  unfolding metrics keep
  metrics-read =
      ap (λ (places : List ℕ). map (metric_at (sent r)) (keep (is_object METRIC (sent r)) places)) placed
      ∙ ap₂ (λ (a b : Bool). map (metric_at (sent r)) (keep_if a 4 (keep_if b 16 (keep (is_object METRIC (sent r)) (offsets written_metric behind r.metrics))))) rp-other route-other
      ∙ metrics-kept (sent r) behind r.metrics behind-row fits.metrics-fit

  pub none_out_of_range : wrong_metric (sent r) ≡ 0
  unfolding wrong_metric first_of
  none_out_of_range =
      let test : ℕ → Bool = λ (at : ℕ). is_object METRIC (sent r) at && out_of_range (value_at (sent r) at) in
      ap (first_of test) placed
      ∙ ap₂ (λ (a b : Bool). or_else (a && out_of_range (value_at (sent r) 4)) 4 (or_else (b && out_of_range (value_at (sent r) 16)) 16 (first_of test (offsets written_metric behind r.metrics)))) rp-other route-other
      ∙ none_wrong (sent r) behind r.metrics behind-row fits.metrics-fit (each_in_range r.metrics w.in_range_lem)
