-- What is written for a reply whose fields fit the machine's types are bytes. By the objects, and recursion on the addresses and METRICs.
use Prim.Native.Nat.{ℕ, ◌+◌, ◌*◌, ◌%◌, ◌<◌}
use mathlib.Core.Path.{refl}
use mathlib.Core.Bool.{Bool, true, false, cond}
use mathlib.Core.List.{List, [], ◌∷◌, ◌++◌}
use lib.ListN.{length}
use lib.Dec.{lit<}
use Rattle.model.specs.Lists.{each}
use Rattle.model.specs.Bytes.{bytes_of}
use Rattle.laws.proofs.BigEndian.{Bytes}
use Rattle.laws.proofs.Numbers.{bytes_nil, bytes_cons, bytes-append, bytes-test, bytes-bytes_of}
use Rattle.pcep_model.specs.declared.MessageKind.TheVariants.{Pcrep}
use Rattle.pcep_model.specs.Objects.{RP, NO-PATH, METRIC, ERO}
use Rattle.pcep_model.specs.Metrics.{Metric}
use Rattle.pcep_model.specs.Pcrep.{mark, Reply, object_bytes, header_bytes, written_step, written_ero, written_no_path, written_metric, written_route, written_objects, written_pcrep}
use Rattle.laws.proofs.InARow.{Each}
use Rattle.pcep_laws.proofs.PcrepFits.{MetricFits, Fits}

p_byte : (p : Bool) → 16 + 2 * mark p < 256
p_byte true = lit< tt
p_byte false = lit< tt

c_byte : (c : Bool) → 128 * mark c < 256
c_byte true = lit< tt
c_byte false = lit< tt

object_bytes_lem : (class : ℕ) (p : Bool) (body : List ℕ) → class < 256 → Bytes body → Bytes (object_bytes class p body)
object_bytes_lem class p body h b =
    bytes_cons class ((16 + 2 * mark p) ∷ bytes_of 2 (4 + length body) ++ body) h
    (bytes_cons (16 + 2 * mark p) (bytes_of 2 (4 + length body) ++ body) (p_byte p)
    (bytes-append (bytes_of 2 (4 + length body)) body (bytes-bytes_of 2 (4 + length body)) b))

steps-bytes : (s : List ℕ) → Bytes (each written_step s)
unfolding each
steps-bytes [] = bytes_nil
steps-bytes (a ∷ s) =
    bytes-append (written_step a) (each written_step s)
    (bytes-append (1 ∷ 8 ∷ bytes_of 4 a) (32 ∷ 0 ∷ [])
    (bytes-append (1 ∷ 8 ∷ []) (bytes_of 4 a) (bytes-test (1 ∷ 8 ∷ []) refl) (bytes-bytes_of 4 a))
    (bytes-test (32 ∷ 0 ∷ []) refl))
    (steps-bytes s)

route-bytes
    : (found : Bool) (addresses : List ℕ) (nature : ℕ) (c : Bool)
    → nature < 256
    → Bytes (cond found (written_ero addresses) (written_no_path nature c))
route-bytes true addresses nature c h = object_bytes_lem ERO false (each written_step addresses) (lit< tt) (steps-bytes addresses)
route-bytes false addresses nature c h =
    object_bytes_lem NO-PATH false (nature ∷ 128 * mark c ∷ 0 ∷ 0 ∷ []) (lit< tt)
    (bytes_cons nature (128 * mark c ∷ 0 ∷ 0 ∷ []) h (bytes_cons (128 * mark c) (0 ∷ 0 ∷ []) (c_byte c) (bytes-test (0 ∷ 0 ∷ []) refl)))

metrics-bytes : (ms : List Metric) → Each MetricFits ms → Bytes (each written_metric ms)
unfolding each
metrics-bytes [] h = bytes_nil
metrics-bytes (m ∷ ms) h =
    bytes-append (written_metric m) (each written_metric ms)
    (object_bytes_lem METRIC false (0 ∷ 0 ∷ m.flags ∷ m.kind ∷ bytes_of 4 m.value) (lit< tt)
    (bytes-append (0 ∷ 0 ∷ []) (m.flags ∷ m.kind ∷ bytes_of 4 m.value) (bytes-test (0 ∷ 0 ∷ []) refl)
    (bytes_cons m.flags (m.kind ∷ bytes_of 4 m.value) h.0.flags-fit
    (bytes_cons m.kind (bytes_of 4 m.value) h.0.kind_fits (bytes-bytes_of 4 m.value)))))
    (metrics-bytes ms h.1)

pub written_are_bytes : (r : Reply) → Fits r → Bytes (written_pcrep r)
unfolding written_pcrep
written_are_bytes r fits =
    let n = 4 + length (written_objects r) in
    let rp = bytes_of 4 (r.rp_flags % 64) ++ bytes_of 4 r.request_id in
    bytes-append (header_bytes Pcrep n) (written_objects r)
    (bytes-append (32 ∷ 4 ∷ []) (bytes_of 2 n) (bytes-test (32 ∷ 4 ∷ []) refl) (bytes-bytes_of 2 n))
    (bytes-append (object_bytes RP true rp) (written_route r ++ each written_metric r.metrics)
    (object_bytes_lem RP true rp (lit< tt)
    (bytes-append (bytes_of 4 (r.rp_flags % 64)) (bytes_of 4 r.request_id) (bytes-bytes_of 4 (r.rp_flags % 64)) (bytes-bytes_of 4 r.request_id)))
    (bytes-append (written_route r) (each written_metric r.metrics) (route-bytes r.found r.addresses r.nature r.c_flag fits.nature-fits)
    (metrics-bytes r.metrics fits.metrics-fit)))
