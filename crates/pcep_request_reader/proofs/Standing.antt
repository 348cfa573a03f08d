-- The objects that the frame's checks found stand in the message, and are as long as their fields need.
use Rattle.std.specs.Prelude.{Option, None, Some}
use Rattle.std.specs.Option.{option_or}
use Prim.Native.Nat.{ℕ, ◌≤◌, ◌<◌}
use native.Mathlib.Omega.{arith}
use mathlib.Core.Path.{◌≡◌, refl, sym, ap, ◌∙◌}
use mathlib.Core.Bool.{Bool, true, false, cond}
use mathlib.Core.List.{List}
use lib.ListN.{length, get_or}
use lib.Dec.{eqb}
use Rattle.pcep_model.specs.declared.MessageKind.TheVariants.{Pcreq}
use Rattle.pcep_model.specs.Objects.{RP, END-POINTS, first_object, objects_verdict}
use Rattle.pcep_model.specs.Metrics.{metrics, wrong_metric, bound_metric}
use Rattle.pcep_model.specs.Pcreq.{judged_metric}
use Rattle.pcep_laws.specs.Table.{leasts}
use Rattle.pcep_laws.specs.Firsts.{placed}
use Rattle.pcep_laws.proofs.Firsts.{placed_some, for_placed}
use Rattle.pcep_laws.specs.Left.{Stands}
use Rattle.pcep_laws.proofs.Found.{object_stands, bound_stands, wrong_stands}
use Rattle.pcep_laws.proofs.Message.{has_rp, has_ends}
use Rattle.pcep_message.specs.declared.objects.Objects.{Objects}
use Rattle.pcep_message.specs.Walked.{first_at}
use Rattle.pcep_message.specs.Framed.{FramePassed}
use Rattle.pcep_metrics.specs.Along.{Passed}
use Rattle.pcep_request_reader.specs.ParsedPcreq.{Framed}
use Rattle.model.specs.Verdict.{Pass}

value_of : Option ℕ → ℕ
value_of None = 0
value_of (Some x) = x

pub some-same : (x y : ℕ) → Some x ≡ Some y → x ≡ y
unfolding value_of
some-same x y e = ap value_of e

module _ (s : List ℕ) (m : Objects) (count : ℕ) (f : Framed s m count) where
  pub there : (c : ℕ) → 0 < get_or (leasts Pcreq) c 0 → (x : ℕ) → first_at m c ≡ Some x → Stands s x (get_or (leasts Pcreq) c 0)
  there c known =
      for_placed (first_at m c) (first_object c s) (f.firsts_are c known) (λ (at : ℕ). Stands s at (get_or (leasts Pcreq) c 0)) (object_stands Pcreq s f.right c known)

  pub rp : m.rp ≡ Some (first_object RP s)
  rp = placed_some m.rp (first_object RP s) (f.firsts_are RP (omega arith)) f.some_rp

  pub ends : m.end_points ≡ Some (first_object END-POINTS s)
  ends = placed_some m.end_points (first_object END-POINTS s) (f.firsts_are END-POINTS (omega arith)) f.some_ends

-- the METRIC that is judged as the bound stands too
pub judged_stands : (s : List ℕ) → objects_verdict Pcreq s 4 ≡ Pass → (judged_metric s ≡ 0 → ⊥) → Stands s (judged_metric s) 12
judged_stands s right some = by (eqb (wrong_metric s) 0) refl some
  where
    by
        : (none : Bool) → eqb (wrong_metric s) 0 ≡ none → (cond none (bound_metric s) (wrong_metric s) ≡ 0 → ⊥)
        → Stands s (cond none (bound_metric s) (wrong_metric s)) 12
    by true e there = bound_stands Pcreq s right (omega arith) there
    by false e there = wrong_stands Pcreq s right (omega arith) there

-- and the first of those out of range and of those with B set says which it is
judged_by : (w : ℕ) (b : Option ℕ) (bound : ℕ) → b ≡ placed bound → (none : Bool) → eqb w 0 ≡ none → option_or (cond none None (Some w)) b ≡ placed (cond none bound w)
judged_by w b bound is true e = is
judged_by w b bound is false e = sym (rw e refl)

pub judged_placed : (s : List ℕ) (wrong bound : Option ℕ) → wrong ≡ placed (wrong_metric s) → bound ≡ placed (bound_metric s) → option_or wrong bound ≡ placed (judged_metric s)
judged_placed s wrong bound w b = ap (λ (o : Option ℕ). option_or o bound) w ∙ judged_by (wrong_metric s) bound (bound_metric s) b (eqb (wrong_metric s) 0) refl

-- a PCReq whose frame passes
module _ (s : List ℕ) (m : Objects) (f : FramePassed Pcreq s m) where
  pub passed : Passed s
  passed = record { kind = Pcreq; right = f.objects; long = f.long; short = f.short }

  pub framed : (count : ℕ) → count ≡ length (metrics s) → count ≤ 65535 → Framed s m count
  framed count counted most =
      record {
        right = f.objects;
        short = f.short;
        firsts_are = f.firsts;
        some_rp = has_rp Pcreq s f.verdict;
        some_ends = has_ends s f.verdict;
        counted = counted;
        most = most;
      }
