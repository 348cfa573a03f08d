-- The checks of a whole message put together: where the first of them refuses, and where only what is missing decides.
use Rattle.std.specs.Prelude.{Err, Option, None, Some}
use Rattle.std.specs.Option.{is_none}
use Prim.Native.Nat.{ℕ, ◌≤◌}
use native.Mathlib.Omega.{arith}
use mathlib.Core.Path.{◌≡◌, refl, sym, ap, ◌∙◌}
use mathlib.Core.Bool.{Bool, true, false, cond}
use mathlib.Core.List.{List}
use lib.ListN.{length}
use lib.Dec.{eqb}
use Rattle.model.specs.declared.Refusal.{Refusal}
use Rattle.model.specs.Verdict.{Pass, refuse_if, ◌and_then◌}
use Rattle.pcep_model.specs.declared.MessageKind.{MessageKind}
use Rattle.pcep_model.specs.declared.MessageKind.TheVariants.{Pcreq, Pcrep}
use Rattle.pcep_model.specs.Objects.{RP, END-POINTS, ERO, NO-PATH, header_wrong, objects_verdict, body_verdict, message_verdict, first_object}
use Rattle.pcep_laws.specs.Firsts.{placed}
use Rattle.pcep_message.specs.declared.objects.Objects.{Objects}
use Rattle.pcep_message.specs.Walked.{FirstsAre, ObjectsPassed}
use Rattle.pcep_message.specs.Framed.{missing_verdict, FramePassed}

none_by : (n : ℕ) (none : Bool) → is_none (cond none None (Some n)) ≡ none
none_by n true = refl
none_by n false = refl

-- where no object is, no place is known
none_placed : (o : Option ℕ) (n : ℕ) → o ≡ placed n → is_none o ≡ eqb n 0
none_placed o n e = ap is_none e ∙ none_by n (eqb n 0)

-- what the places say is missing is missing
module _ (s : List ℕ) (m : Objects) where
  same-missing : (k : MessageKind) → FirstsAre k s m → missing_verdict k m ≡ refuse_if (eqb (first_object RP s) 0) 39 0 and_then body_verdict k s
  same-missing Pcreq are =
      rw (none_placed m.rp (first_object RP s) (are RP (omega arith)), none_placed m.end_points (first_object END-POINTS s) (are END-POINTS (omega arith))) refl
  same-missing Pcrep are =
      rw (none_placed m.rp (first_object RP s) (are RP (omega arith)), none_placed m.ero (first_object ERO s) (are ERO (omega arith)), none_placed m.no_path (first_object NO-PATH s) (are NO-PATH (omega arith))) refl

module _ (k : MessageKind) (s : List ℕ) where
  pub by_header : header_wrong k s ≡ true → message_verdict k s ≡ refuse_if true 36 0
  unfolding message_verdict
  by_header wrong = rw wrong refl

  module _ (right : header_wrong k s ≡ false) where
    pub by_object : (x : Refusal) → objects_verdict k s 4 ≡ Err x → message_verdict k s ≡ Err x
    unfolding message_verdict
    by_object x e = rw (right, e) refl

    module _ (m : Objects) (o : ObjectsPassed k s m) where
      pub by_missing : message_verdict k s ≡ missing_verdict k m
      unfolding message_verdict
      by_missing = rw (right, o.verdict) refl ∙ sym (same-missing s m k o.firsts)

      pub frame_passes : missing_verdict k m ≡ Pass → 4 ≤ length s → length s ≤ 65535 → FramePassed k s m
      frame_passes p long short = record { verdict = by_missing ∙ p; firsts = o.firsts; objects = o.verdict; long = long; short = short }
