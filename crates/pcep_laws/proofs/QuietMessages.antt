-- What the calls that take or make a message say and write by their answer: as for the other calls (`Quiet` of `laws`), with numbers up to 41, and 42 where an include list is read. By going through the checks.
use Rattle.std.specs.Prelude.{Ok, Err}
use Prim.Native.Nat.{ℕ, ◌+◌, ◌-◌, ◌≤◌}
use native.Mathlib.Omega.{arith}
use mathlib.Core.Path.{◌≡◌, refl}
use mathlib.Core.Bool.{Bool, not, ◌&&◌, ◌||◌}
use mathlib.Core.List.{List, []}
use lib.ListN.{length}
use lib.Dec.{eqb, leb, ltb}
use Rattle.model.specs.Verdict.{Verdict}
use Rattle.model.specs.declared.ListKind.TheVariants.{Include}
use Rattle.model.specs.Lists.{any}
use Rattle.model.specs.Subobject as Subobject
use Rattle.model.specs.Request.{sequence_of}
use Rattle.model.specs.Calls.{Outcome, build_tree, first, next}
use Rattle.laws.proofs.RefusalNumbers.{Refusing, test, both, more, along, plain_refusing, sequence_reads, sizes_refusing, forms_refusing}
use Rattle.laws.proofs.Quiet.{QuietNumbers, Quiet, refused-numbers, done_numbers, refused_quiet, done_quiet, room, write_by, tree_of, first_from_lem, next_from_lem}
use Rattle.pcep_model.specs.declared.MessageKind.{MessageKind}
use Rattle.pcep_model.specs.declared.MessageKind.TheVariants.{Pcreq, Pcrep}
use Rattle.pcep_model.specs.Objects.{RP, END-POINTS, NO-PATH, ERO, demanded_at, class_at, type_at, size_wrong, known_object, object_verdict, after_object, first_object, header_wrong, body_verdict, message_verdict}
use Rattle.pcep_model.specs.Metrics.{Metric, metrics, out_of_range, wrong_metric}
use Rattle.pcep_model.specs.Pcreq.{bandwidth_of, include_extent, exclude_extent, list_in, pcreq_verdict, answer_pcreq, read_pcreq, carried, behind, pcreq_tree, pcreq_first, pcreq_next}
use Rattle.pcep_model.specs.Pcrep.{step_verdict, route_in, addresses_in, pcrep_verdict, Reading, answer_pcrep, read_pcrep, Reply, written_pcrep, write_verdict, write_pcrep}

high : 35 ≤ 41
high = omega arith

-- ---- the checks of a message

object_refusing : (k : MessageKind) (s : List ℕ) (at : ℕ) → Refusing 41 (object_verdict k s at)
unfolding object_verdict
object_refusing k s at =
    more 41 high
    (more 41 high (test 41 high (ltb (length s) (at + 4)) 37 at (omega arith)) (size_wrong k s at) 37 at (omega arith))
    (demanded_at s at && not (known_object k (class_at s at) (type_at s at)))
    38
    at
    (omega arith)

body_refusing : (k : MessageKind) (s : List ℕ) → Refusing 41 (body_verdict k s)
body_refusing Pcreq s = test 41 high (eqb (first_object END-POINTS s) 0) 40 0 (omega arith)
body_refusing Pcrep s = test 41 high (eqb (first_object ERO s) 0 && eqb (first_object NO-PATH s) 0) 41 0 (omega arith)

message_refusing : (k : MessageKind) (s : List ℕ) → Refusing 41 (message_verdict k s)
unfolding message_verdict
message_refusing k s =
    both 41 high
    (more 41 high
    (both 41 high (test 41 high (header_wrong k s) 36 0 (omega arith)) (along 41 high (object_verdict k s) (after_object s) (length s) (object_refusing k s) (length s - 4) 4))
    (eqb (first_object RP s) 0)
    39
    0
    (omega arith))
    (body_refusing k s)

step_refusing : (e : List ℕ) (at : ℕ) → Refusing 41 (step_verdict e at)
unfolding step_verdict
step_refusing e at =
    both 41 high (test 41 high (leb (at + 4) (length e) && not (eqb (Subobject.type_at e at) 1)) 24 at (omega arith)) (plain_refusing 41 high Include e (length e) at)

-- up to a higher number
widened : (v : Verdict) → Refusing 41 v → Refusing 42 v
widened v h = record { numbered = λ x e. let n = h.numbered x e in (n.0, omega (arith, n.1)) }

-- ---- the calls

pcreq_by : (v : Verdict) (s : List ℕ) → Refusing 41 v → Quiet 41 (answer_pcreq v s)
pcreq_by (Ok _) s h = done_quiet 41 high _ (metrics s)
pcreq_by (Err x) s h = refused_quiet 41 high 10 x (h.numbered x refl)

-- with the meaning of an include list, whose highest number is 42
within : 35 ≤ 42
within = omega arith

highest : 42 ≤ 42
highest = omega arith

behind_by : {A : Type 0} (v : Verdict) (o : Outcome A) → Refusing 42 v → Quiet 42 o → Quiet 42 (behind v o)
behind_by (Ok _) o h k = k
behind_by (Err x) o h k = refused_quiet 42 within 3 x (h.numbered x refl)

-- a PCRep that is read: numbers, and what goes to both kinds of buffers
pub record QuietReading (r : Reading) : Type 0 where
  pub numbers : QuietNumbers 41 r.numbers
  pub no_addresses : (r.numbers.answer ≡ 0 → ⊥) → r.addresses ≡ []
  pub no_metrics : (r.numbers.answer ≡ 0 → ⊥) → r.metrics ≡ []

pcrep_by : (v : Verdict) (s : List ℕ) → Refusing 41 v → QuietReading (answer_pcrep v s)
pcrep_by (Ok _) s h =
    record { numbers = done_numbers 41 high _; no_addresses = λ some. absurd (some refl); no_metrics = λ some. absurd (some refl) }
pcrep_by (Err x) s h =
    record { numbers = refused-numbers 41 high 7 x (h.numbered x refl); no_addresses = λ some. refl; no_metrics = λ some. refl }

-- ---- one law over all calls

pub record MessagesQuiet : Type 0 where
  pub read-pcreq : (s : List ℕ) (there : ℕ) → Quiet 41 (read_pcreq s there)
  pub pcreq-tree : (profile : List ℕ) (ingress : ℕ) (s : List ℕ) (there : ℕ) → Quiet 42 (pcreq_tree profile ingress s there)
  pub pcreq_first_lem : (profile : List ℕ) (ingress : ℕ) (s : List ℕ) (there : ℕ) → Quiet 42 (pcreq_first profile ingress s there)
  pub pcreq_next_lem : (profile : List ℕ) (ingress : ℕ) (s given : List ℕ) (there : ℕ) → Quiet 42 (pcreq_next profile ingress s given there)
  pub write_pcrep_lem : (r : Reply) (unequal : Bool) (there : ℕ) → Quiet 41 (write_pcrep r unequal there)
  pub read-pcrep : (s : List ℕ) (address_room metric_room : ℕ) → QuietReading (read_pcrep s address_room metric_room)

pub messages_quiet : MessagesQuiet
unfolding read_pcreq pcreq_verdict pcreq_tree pcreq_first pcreq_next build_tree first next write_pcrep write_verdict read_pcrep pcrep_verdict
messages_quiet =
    record {
      read-pcreq = λ s there.
          pcreq_by _ s
          (both 41 high
          (both 41 high
          (both 41 high
          (both 41 high (message_refusing Pcreq s) (more 41 high (test 41 high (out_of_range (bandwidth_of s)) 21 0 (omega arith)) (not (eqb (wrong_metric s) 0)) 21 1 (omega arith)))
          (sizes_refusing 41 high (list_in s (include_extent s)) (list_in s (exclude_extent s))))
          (forms_refusing 41 high (list_in s (include_extent s)) (list_in s (exclude_extent s))))
          (room 41 high (length (metrics s)) there));
      pcreq-tree = λ profile ingress s there.
          let r = carried profile ingress s in behind_by (message_verdict Pcreq s) _ (widened (message_verdict Pcreq s) (message_refusing Pcreq s)) (tree_of 42 within r (sequence_of r) there (sequence_reads 42 within highest r));
      pcreq_first_lem = λ profile ingress s there.
          let r = carried profile ingress s in behind_by (message_verdict Pcreq s) _ (widened (message_verdict Pcreq s) (message_refusing Pcreq s)) (first_from_lem 42 within r (sequence_of r) there (sequence_reads 42 within highest r));
      pcreq_next_lem = λ profile ingress s given there.
          let r = carried profile ingress s in
          behind_by (message_verdict Pcreq s) _ (widened (message_verdict Pcreq s) (message_refusing Pcreq s)) (next_from_lem 42 within r (sequence_of r) given there (sequence_reads 42 within highest r));
      write_pcrep_lem = λ r unequal there.
          write_by 41 high _ (written_pcrep r)
          (both 41 high
          (more 41 high (test 41 high (unequal || ltb 65535 (length (written_pcrep r))) 37 0 (omega arith)) (any (λ (m : Metric). out_of_range m.value) r.metrics) 21 1 (omega arith))
          (room 41 high (length (written_pcrep r)) there));
      read-pcrep = λ s address_room metric_room.
          pcrep_by _ s
          (both 41 high
          (both 41 high
          (both 41 high
          (more 41 high (message_refusing Pcrep s) (not (eqb (wrong_metric s) 0)) 21 1 (omega arith))
          (along 41 high (step_verdict (route_in s)) (Subobject.after_subobject (route_in s)) (length (route_in s)) (step_refusing (route_in s)) (length (route_in s) - 0) 0))
          (room 41 high (length (addresses_in (route_in s))) address_room))
          (room 41 high (length (metrics s)) metric_room));
    }
