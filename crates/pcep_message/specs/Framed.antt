-- What the checks of a whole message answer, over `Objects` of `pcep_model`.
use Rattle.std.specs.Prelude.{ℕ, ◌≤◌, ◌≡◌, ◌&&◌, List, length, Result, Ok, Err}
use Rattle.std.specs.Option.{is_none}
use Rattle.model.specs.declared.Refusal.{Refusal}
use Rattle.model.specs.Verdict.{Verdict, Pass, refuse_if, ◌and_then◌}
use Rattle.pcep_model.specs.declared.MessageKind.{MessageKind}
use Rattle.pcep_model.specs.declared.MessageKind.TheVariants.{Pcreq, Pcrep}
use Rattle.pcep_model.specs.Objects.{objects_verdict, message_verdict}
use Rattle.pcep_message.specs.declared.objects.Objects.{Objects}
use Rattle.pcep_message.specs.Walked.{FirstsAre}

-- 39, then 40 or 41, by where the first object of each class starts
abbrev pub route_missing : MessageKind → Objects → Verdict
route_missing Pcreq m = refuse_if (is_none m.end_points) 40 0
route_missing Pcrep m = refuse_if (is_none m.ero && is_none m.no_path) 41 0

abbrev pub missing_verdict : MessageKind → Objects → Verdict
missing_verdict k m = refuse_if (is_none m.rp) 39 0 and_then route_missing k m

-- where the frame passes, the first object of each class, and how long the message is
pub record FramePassed (k : MessageKind) (s : List ℕ) (m : Objects) : Type 0 where
  pub verdict : message_verdict k s ≡ Pass
  pub firsts : FirstsAre k s m
  pub objects : objects_verdict k s 4 ≡ Pass
  pub long : 4 ≤ length s
  pub short : length s ≤ 65535

abbrev pub FrameIs : MessageKind → List ℕ → Result Objects Refusal → Type 0
FrameIs k s (Err x) = message_verdict k s ≡ Err x
FrameIs k s (Ok m) = FramePassed k s m
