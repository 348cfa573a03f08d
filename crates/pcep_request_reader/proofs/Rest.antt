-- The checks of the frame and those behind it put together: a refusal of the frame is the answer, and where none refuses the message passes.
use Rattle.std.specs.Prelude.{Err}
use Prim.Native.Nat.{ℕ}
use mathlib.Core.Path.{◌≡◌, refl, ◌∙◌}
use mathlib.Core.List.{List}
use lib.ListN.{length}
use lib.Dec.{ltb}
use borrow.Author.Tests.{ltb-false}
use Rattle.model.specs.declared.Refusal.{Refusal}
use Rattle.model.specs.Verdict.{Pass, ◌and_then◌}
use Rattle.model.specs.Request.{sizes_verdict, forms_verdict}
use Rattle.model.specs.Calls.{room_verdict}
use Rattle.laws.proofs.Turns.{and_then_pass, refuse_if_pass}
use Rattle.pcep_model.specs.declared.MessageKind.TheVariants.{Pcreq}
use Rattle.pcep_model.specs.Objects.{message_verdict}
use Rattle.pcep_model.specs.Metrics.{metrics}
use Rattle.pcep_model.specs.Pcreq.{floats_verdict, list_in, include_extent, exclude_extent, pcreq_verdict}
use Rattle.pcep_request_reader.specs.declared.fields.PcreqParts.{PcreqParts}
use Rattle.pcep_request_reader.specs.ParsedPcreq.{PartsAre}
use Rattle.pcep_request_reader.specs.Reading.{rest_verdict, PassedPcreq}

module _ (s : List ℕ) (room : ℕ) where
  pub by_frame : (x : Refusal) → message_verdict Pcreq s ≡ Err x → pcreq_verdict s room ≡ Err x
  unfolding pcreq_verdict
  by_frame x e = rw e refl

  pub behind_frame : message_verdict Pcreq s ≡ Pass → pcreq_verdict s room ≡ rest_verdict s room
  unfolding pcreq_verdict
  behind_frame e = rw e refl

  pub all_pass : (t : PcreqParts) → PartsAre s t → rest_verdict s room ≡ Pass → PassedPcreq s room t.fields
  all_pass t is pass =
      let i = list_in s (include_extent s) in
      let x = list_in s (exclude_extent s) in
      record {
        verdict = behind_frame is.verdict ∙ pass;
        passed = is.passed;
        fields = is.fields.are;
        fits =
            ltb-false room (length (metrics s))
            ((refuse_if_pass (ltb room (length (metrics s))) 34 0).0
            ((and_then_pass (floats_verdict s and_then sizes_verdict i x and_then forms_verdict i x) (room_verdict (length (metrics s)) room)).0 pass).1);
      }
