-- How long a written PCRep is: 16 bytes of header and RP, an ERO of 4 and 8 for each address or a NO-PATH of 8, and 12 for each METRIC.
use Prim.Native.Nat.{ℕ, ◌+◌, ◌*◌}
use native.Mathlib.Omega.{arith}
use mathlib.Core.Path.{◌≡◌, refl, ◌∙◌}
use mathlib.Core.Bool.{Bool, true, false, cond}
use mathlib.Core.List.{List, [], ◌∷◌, ◌++◌}
use lib.ListN.{length, length-append}
use Rattle.model.specs.Lists.{each}
use Rattle.model.specs.Bytes.{bytes_of}
use Rattle.pcep_model.specs.declared.MessageKind.TheVariants.{Pcrep}
use Rattle.pcep_model.specs.Metrics.{Metric}
use Rattle.pcep_model.specs.Pcrep.{Reply, header_bytes, written_rp, written_step, written_ero, written_no_path, written_metric, written_route, written_objects, written_pcrep}

-- lists of one length, one after the other
pub each-length : {A B : Type 0} (f : A → List B) (k : ℕ) → ((x : A) → length (f x) ≡ k) → (xs : List A) → length (each f xs) ≡ k * length xs
unfolding each
each-length f k h [] = omega arith
each-length f k h (x ∷ xs) =
    let first = h x in
    let rest = each-length f k h xs in
    length-append (f x) (each f xs) ∙ omega arith

pub step_length : (a : ℕ) → length (written_step a) ≡ 8
unfolding bytes_of
step_length a = refl

pub metric-length : (m : Metric) → length (written_metric m) ≡ 12
unfolding bytes_of
metric-length m = refl

pub steps-length : (addresses : List ℕ) → length (each written_step addresses) ≡ 8 * length addresses
steps-length = each-length written_step 8 step_length

pub metrics-length : (ms : List Metric) → length (each written_metric ms) ≡ 12 * length ms
metrics-length = each-length written_metric 12 metric-length

-- the header and the RP
pub head-length : (size id flags : ℕ) → length (header_bytes Pcrep size ++ written_rp id flags) ≡ 16
unfolding bytes_of
head-length size id flags = refl

pub ero-length : (addresses : List ℕ) → length (written_ero addresses) ≡ 4 + 8 * length addresses
unfolding bytes_of
ero-length addresses = let n = steps-length addresses in omega arith

pub no_path_length : (nature : ℕ) (c : Bool) → length (written_no_path nature c) ≡ 8
unfolding bytes_of
no_path_length nature c = refl

pub route-length : (found : Bool) (addresses : List ℕ) (nature : ℕ) (c : Bool)
    → length (cond found (written_ero addresses) (written_no_path nature c)) ≡ cond found (4 + 8 * length addresses) 8
route-length true addresses nature c = ero-length addresses
route-length false addresses nature c = no_path_length nature c

pub objects-length : (r : Reply) → length (written_objects r) ≡ 12 + cond r.found (4 + 8 * length r.addresses) 8 + 12 * length r.metrics
unfolding bytes_of
objects-length r =
    let route : length (written_route r) ≡ cond r.found (4 + 8 * length r.addresses) 8 = route-length r.found r.addresses r.nature r.c_flag in
    let ms = metrics-length r.metrics in
    let both = length-append (written_route r) (each written_metric r.metrics) in
    omega arith

pub written-length : (r : Reply) → length (written_pcrep r) ≡ 16 + cond r.found (4 + 8 * length r.addresses) 8 + 12 * length r.metrics
unfolding written_pcrep bytes_of
written-length r = let n = objects-length r in omega arith
