-- The checks of a PCRep put together: a refusal of the frame, of a METRIC, or of what is behind them; and what is known where all pass.
use Rattle.std.specs.Prelude.{Option, Err}
use Rattle.std.specs.Option.{is_some}
use Prim.Native.Nat.{ℕ, ◌+◌, ◌≤◌}
use native.Mathlib.Omega.{arith}
use mathlib.Core.Path.{◌≡◌, refl, sym, ◌∙◌}
use mathlib.Core.List.{List}
use lib.ListN.{length, drop, length-take, length-drop}
use lib.Dec.{ltb}
use borrow.Author.Tests.{eqb-true, ltb-false, eq-eqb, not-false}
use Rattle.model.specs.declared.Refusal.{Refusal}
use Rattle.model.specs.Verdict.{Pass, refuse_if, ◌and_then◌}
use Rattle.model.specs.Calls.{room_verdict}
use Rattle.laws.proofs.Turns.{and_then_pass, refuse_if_pass}
use Rattle.pcep_model.specs.declared.Extent.{Extent}
use Rattle.pcep_model.specs.declared.MessageKind.TheVariants.{Pcrep}
use Rattle.pcep_model.specs.declared.PcrepFields.{PcrepFields}
use Rattle.pcep_model.specs.Objects.{message_verdict}
use Rattle.pcep_model.specs.Metrics.{metrics, wrong_metric}
use Rattle.pcep_model.specs.Pcreq.{list_in}
use Rattle.pcep_model.specs.Pcrep.{ero_verdict, addresses_in, route_in, pcrep_fields, pcrep_verdict}
use Rattle.pcep_laws.specs.Firsts.{placed}
use Rattle.pcep_laws.proofs.Firsts.{some-is}
use Rattle.pcep_message.specs.declared.objects.Objects.{Objects}
use Rattle.pcep_message.specs.Framed.{FramePassed}
use Rattle.pcep_metrics.specs.Along.{Passed}
use Rattle.pcep_reply_reader.specs.CheckedPcrep.{rest_verdict, Framed, PassedPcrep}

-- a list that stands in a message is no longer than it
pub list-short : (s : List ℕ) (x : Extent) → length (list_in s x) ≤ length s
list-short s x = omega (arith, length-take x.size (drop x.start s), length-drop x.start s)

pub rest_form : (body : List ℕ) (count address_room metric_room : ℕ) → rest_verdict body count address_room metric_room ≡ Pass → ero_verdict body ≡ Pass
rest_form body count address_room metric_room e =
    ((and_then_pass (ero_verdict body) (room_verdict (length (addresses_in body)) address_room)).0
    ((and_then_pass (ero_verdict body and_then room_verdict (length (addresses_in body)) address_room) (room_verdict count metric_room)).0 e).0
    ).0

module _ (s : List ℕ) (address_room metric_room : ℕ) where
  pub by_frame : (x : Refusal) → message_verdict Pcrep s ≡ Err x → pcrep_verdict s address_room metric_room ≡ Err x
  unfolding pcrep_verdict
  by_frame x e = rw e refl

  module _ (frame : message_verdict Pcrep s ≡ Pass) where
    -- a METRIC out of range
    pub by_metric : (wrong : Option ℕ) → wrong ≡ placed (wrong_metric s) → (x : Refusal) → refuse_if (is_some wrong) 21 1 ≡ Err x → pcrep_verdict s address_room metric_room ≡ Err x
    unfolding pcrep_verdict
    by_metric wrong is x e = rw (frame, sym (some-is wrong (wrong_metric s) is), e) refl

    pub none-wrong : (wrong : Option ℕ) → wrong ≡ placed (wrong_metric s) → refuse_if (is_some wrong) 21 1 ≡ Pass → wrong_metric s ≡ 0
    none-wrong wrong is e =
        eqb-true (wrong_metric s) 0 (not-false _ (sym (some-is wrong (wrong_metric s) is) ∙ (refuse_if_pass (is_some wrong) 21 1).0 e))

    module _ (none : wrong_metric s ≡ 0) (body : List ℕ) (is : body ≡ route_in s) (count : ℕ) (counted : count ≡ length (metrics s)) where
      pub by_rest : rest_verdict body count address_room metric_room ≡ pcrep_verdict s address_room metric_room
      unfolding pcrep_verdict
      by_rest = rw (frame, eq-eqb (wrong_metric s) 0 none, is, counted) refl

  -- all pass
  pub accepted
      : rest_verdict (route_in s) (length (metrics s)) address_room metric_room ≡ pcrep_verdict s address_room metric_room
      → Pass ≡ rest_verdict (route_in s) (length (metrics s)) address_room metric_room
      → Passed s → (f : PcrepFields) → f ≡ pcrep_fields s
      → (x : Extent) → x.start + x.size ≤ length s → list_in s x ≡ route_in s
      → PassedPcrep s address_room metric_room f x
  accepted same pass passed f are x inside is =
      let one = (and_then_pass (ero_verdict (route_in s) and_then room_verdict (length (addresses_in (route_in s))) address_room) (room_verdict (length (metrics s)) metric_room)).0 (sym pass) in
      let two = (and_then_pass (ero_verdict (route_in s)) (room_verdict (length (addresses_in (route_in s))) address_room)).0 one.0 in
      record {
        verdict = sym (pass ∙ same);
        passed = passed;
        fields = are;
        inside = inside;
        route = is;
        form = two.0;
        addresses-fit = ltb-false address_room (length (addresses_in (route_in s))) ((refuse_if_pass (ltb address_room (length (addresses_in (route_in s)))) 34 0).0 two.1);
        metrics-fit = ltb-false metric_room (length (metrics s)) ((refuse_if_pass (ltb metric_room (length (metrics s))) 34 0).0 one.1);
      }

-- a PCRep whose frame passes
module _ (s : List ℕ) (m : Objects) (f : FramePassed Pcrep s m) where
  pub passed : Passed s
  passed = record { kind = Pcrep; right = f.objects; long = f.long; short = f.short }

  pub framed
      : (addresses count : ℕ) → addresses ≡ length (addresses_in (route_in s)) → addresses ≤ 65535 → count ≡ length (metrics s) → count ≤ 65535
      → Framed s m addresses count
  framed addresses count are few counted most =
      record {
        verdict = f.verdict;
        right = f.objects;
        short = f.short;
        firsts_are = f.firsts;
        addresses_are = are;
        few = few;
        counted = counted;
        most = most;
      }
