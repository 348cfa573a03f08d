-- The checks of the request that a PCReq carries, which judge its floats as the message's are judged.
use Prim.Native.Nat.{ℕ}
use mathlib.Core.Path.{◌≡◌, ap, ◌∙◌}
use mathlib.Core.List.{List}
use Rattle.model.specs.Verdict.{Verdict, Pass, ◌and_then◌}
use Rattle.model.specs.Profile.{verdict_on}
use Rattle.model.specs.Request.{ingress_verdict, request_verdict, sizes_verdict, forms_verdict, request_verdict_with}
use Rattle.laws.proofs.Turns.{and_then-nothing}
use Rattle.pcep_model.specs.Pcreq.{include_extent, exclude_extent, list_in, floats_verdict, carried}
use Rattle.pcep_laws.proofs.MetricsJudged.{metrics_judged}

-- the checks of the request that a PCReq carries, in document 01's order, with those of a reply beside it and alone
module _ (profile : List ℕ) (ingress : ℕ) (s : List ℕ) where
  abbrev include : List ℕ
  include = list_in s (include_extent s)

  abbrev exclude : List ℕ
  exclude = list_in s (exclude_extent s)

  abbrev begin : Verdict → Verdict
  begin floats = verdict_on profile and_then ingress_verdict profile ingress and_then floats

  pub carried_with : (metrics ero : Verdict) → request_verdict_with metrics ero (carried profile ingress s) ≡ begin (floats_verdict s) and_then metrics and_then sizes_verdict include exclude and_then forms_verdict include exclude and_then ero
  carried_with metrics ero = ap (λ (v : Verdict). begin v and_then metrics and_then sizes_verdict include exclude and_then forms_verdict include exclude and_then ero) (metrics_judged s)

  pub carried-verdict
      : request_verdict (carried profile ingress s)
      ≡ verdict_on profile
      and_then ingress_verdict profile ingress
      and_then floats_verdict s
      and_then sizes_verdict include exclude
      and_then forms_verdict include exclude
  unfolding request_verdict
  carried-verdict =
      carried_with Pass Pass
      ∙ and_then-nothing (begin (floats_verdict s) and_then Pass and_then sizes_verdict include exclude and_then forms_verdict include exclude)
      ∙ ap (λ (v : Verdict). v and_then sizes_verdict include exclude and_then forms_verdict include exclude) (and_then-nothing (begin (floats_verdict s)))
