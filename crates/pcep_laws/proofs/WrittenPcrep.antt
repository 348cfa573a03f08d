-- A written PCRep is a message of right objects, RP, then ERO or NO-PATH, then the METRICs, and has 16 bytes, 4 and 8 for each address or 8, and 12 for each
-- METRIC. By cases on whether there is a path, and recursion on the METRICs.
use Prim.Native.Nat.{ℕ, ◌+◌, ◌*◌, ◌%◌, ◌<◌}
use native.Mathlib.Omega.{arith}
use mathlib.Core.Path.{◌≡◌, refl, ap, ap₂}
use mathlib.Core.Bool.{Bool, true, false, cond}
use mathlib.Core.List.{List, [], ◌∷◌, ◌++◌, map}
use lib.ListN.{length}
use borrow.Author.Tests.{le-leb}
use Rattle.model.specs.Lists.{each}
use Rattle.model.specs.Bytes.{bytes_of}
use Rattle.pcep_model.specs.declared.MessageKind.TheVariants.{Pcrep}
use Rattle.pcep_model.specs.Objects.{RP, NO-PATH, METRIC, ERO, known_object, own_length}
use Rattle.pcep_model.specs.Metrics.{Metric}
use Rattle.pcep_model.specs.Pcrep.{mark, Reply, written_rp, written_step, written_ero, written_no_path, written_metric, written_objects, written_pcrep}
use Rattle.laws.proofs.InARow.{Each}
use Rattle.pcep_laws.proofs.WrittenObjects.{Object, bytes_of_object, RightObject, message}
use Rattle.pcep_laws.proofs.WrittenLength.{steps-length, written-length}

-- ---- its objects

abbrev pub rp_object : ℕ → ℕ → Object
rp_object id flags = record { class = RP; demanded = true; body = bytes_of 4 (flags % 64) ++ bytes_of 4 id }

abbrev pub route_object : Bool → List ℕ → ℕ → Bool → Object
route_object true addresses nature c = record { class = ERO; demanded = false; body = each written_step addresses }
route_object false addresses nature c = record { class = NO-PATH; demanded = false; body = nature ∷ 128 * mark c ∷ 0 ∷ 0 ∷ [] }

abbrev pub metric_object : Metric → Object
metric_object m = record { class = METRIC; demanded = false; body = 0 ∷ 0 ∷ m.flags ∷ m.kind ∷ bytes_of 4 m.value }

abbrev pub objects_of : Reply → List Object
objects_of r =
    rp_object r.request_id r.rp_flags ∷ route_object r.found r.addresses r.nature r.c_flag ∷ map metric_object r.metrics

route-bytes
    : (found : Bool) (addresses : List ℕ) (nature : ℕ) (c : Bool)
    → bytes_of_object (route_object found addresses nature c) ≡ cond found (written_ero addresses) (written_no_path nature c)
route-bytes true addresses nature c = refl
route-bytes false addresses nature c = refl

metrics-bytes : (ms : List Metric) → each bytes_of_object (map metric_object ms) ≡ each written_metric ms
unfolding each
metrics-bytes [] = refl
metrics-bytes (m ∷ ms) = ap (λ (l : List ℕ). written_metric m ++ l) (metrics-bytes ms)

objects-bytes : (r : Reply) → each bytes_of_object (objects_of r) ≡ written_objects r
unfolding each
objects-bytes r =
    ap₂ (λ (route metrics : List ℕ). written_rp r.request_id r.rp_flags ++ (route ++ metrics)) (route-bytes r.found r.addresses r.nature r.c_flag)
    (metrics-bytes r.metrics)

pub written_message : (r : Reply) → written_pcrep r ≡ message Pcrep (objects_of r)
unfolding written_pcrep
written_message r = rw objects-bytes

-- ---- each object is right

rp-right : (id flags : ℕ) → RightObject Pcrep (rp_object id flags)
unfolding bytes_of own_length known_object
rp-right id flags = record { short = omega arith; padded = refl; own = refl; welcome = refl }

metric-right : (m : Metric) → RightObject Pcrep (metric_object m)
unfolding bytes_of own_length known_object
metric-right m = record { short = omega arith; padded = refl; own = refl; welcome = refl }

ero_own : (n : ℕ) → own_length Pcrep ERO 1 (4 + n) ≡ true
unfolding own_length
ero_own n = rw (le-leb 4 (4 + n) (omega arith))

route-right
    : (found : Bool) (addresses : List ℕ) (nature : ℕ) (c : Bool)
    → cond found (4 + 8 * length addresses) 8 < 65536
    → RightObject Pcrep (route_object found addresses nature c)
unfolding bytes_of own_length known_object
route-right true addresses nature c h =
    let n = steps-length addresses in
    record { short = omega arith; padded = omega arith; own = ero_own (length (each written_step addresses)); welcome = refl }
route-right false addresses nature c h = record { short = omega arith; padded = refl; own = refl; welcome = refl }

metrics-right : (ms : List Metric) → Each (RightObject Pcrep) (map metric_object ms)
metrics-right [] = tt
metrics-right (m ∷ ms) = (metric-right m, metrics-right ms)

pub objects-right : (r : Reply) → length (written_pcrep r) < 65536 → Each (RightObject Pcrep) (objects_of r)
objects-right r h = (
  rp-right r.request_id r.rp_flags,
  (route-right r.found r.addresses r.nature r.c_flag (omega (arith, written-length r)), metrics-right r.metrics),
)
