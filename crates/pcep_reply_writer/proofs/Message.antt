-- A whole message from its parts: header and RP, ERO or NO-PATH, METRICs, one after the other.
use mathlib.Core.Path.{◌≡◌, subst, ◌∙◌}
use mathlib.Core.Bool.{Bool, cond}
use mathlib.Core.List.{List, ◌++◌, append_assoc}
use Prim.Native.Nat.{ℕ, ◌+◌, ◌*◌, ◌≤◌}
use native.Mathlib.Omega.{arith}
use lib.ListN.{length}
use Rattle.model.specs.Lists.{each}
use Rattle.buffers.specs.Placed.{Put}
use Rattle.buffers.proofs.Places.{put_append}
use Rattle.pcep_model.specs.declared.MessageKind.TheVariants.{Pcrep}
use Rattle.pcep_model.specs.Pcrep.{Reply, header_bytes, written_rp, written_ero, written_no_path, written_metric, written_objects, written_pcrep, metrics_of}
use Rattle.pcep_laws.proofs.WrittenLength.{head-length, route-length, objects-length}
use Rattle.pcep_reply_writer.specs.Lengths.{route_length}
use Rattle.pcep_reply_writer.proofs.Runs.{metrics-count}
use Rattle.pcep_reply_writer.specs.Writing.{reply_of, Fits}

module _ (id flags : ℕ) (found : Bool) (addresses : List ℕ) (nature : ℕ) (c : Bool) (kinds metric_flags values : List ℕ) where
  abbrev reply : Reply
  reply = reply_of id flags found addresses nature c kinds metric_flags values

  abbrev route : List ℕ
  route = cond found (written_ero addresses) (written_no_path nature c)

  abbrev ending : List ℕ
  ending = each written_metric (metrics_of kinds metric_flags values)

  module _ (size : ℕ) (s : List ℕ) (f : Fits found addresses kinds metric_flags values s size) (a : List ℕ) (second : ℕ)
      (p : Put 0 (header_bytes Pcrep size ++ written_rp id flags) s a second) where
    behind-head : second ≡ 16
    behind-head = let n = head-length size id flags in omega (arith, p.next)

    -- the ERO or the NO-PATH has its room
    pub route-fits : length a ≡ length s → (second + route_length found (length addresses) ≤ length a) × (route_length found (length addresses) ≤ 65535)
    route-fits l = let h = behind-head in (omega (arith, f.told, f.room), omega (arith, f.told, f.short))

    module _ (b : List ℕ) (third : ℕ) (q : Put second route a b third) where
      -- and so have the METRICs
      pub metrics-fit : length b ≡ length s → third + 12 * length kinds ≤ length b
      metrics-fit l = let h = behind-head in let n = route-length found addresses nature c in omega (arith, q.next, f.told, f.room)

      told : size ≡ 4 + length (written_objects reply)
      told =
          let n = objects-length reply in
          let m = metrics-count kinds metric_flags values f.together in
          omega (arith, f.told)

      pub message_put : (d : List ℕ) (after : ℕ) → Put third ending b d after → Put 0 (written_pcrep reply) s d after
      unfolding written_pcrep
      message_put d after r =
          let header : List ℕ = header_bytes Pcrep size in
          let rp : List ℕ = written_rp id flags in
          let whole : Put 0 (header ++ rp ++ route ++ ending) s d after = put_append (omega arith) (put_append (omega arith) p q) r in
          let parts : header ++ rp ++ route ++ ending ≡ header ++ (rp ++ (route ++ ending)) =
          append_assoc (header ++ rp) route ending ∙ append_assoc header rp (route ++ ending) in
          subst (λ (n : ℕ). Put 0 (header_bytes Pcrep n ++ written_objects reply) s d after) told (subst (λ (x : List ℕ). Put 0 x s d after) parts whole)
