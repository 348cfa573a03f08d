-- What a PCReq carries as a call takes it, over `Pcreq` of `pcep_model`.
use Rattle.std.specs.Prelude.{ℕ, ◌+◌, ◌≤◌, ◌≡◌, List, length, Result, Ok, Err}
use Rattle.model.specs.declared.Refusal.{Refusal}
use Rattle.request.specs.CheckedRequest.{request_for}
use Rattle.pcep_model.specs.declared.MessageKind.TheVariants.{Pcreq}
use Rattle.pcep_model.specs.Objects.{message_verdict}
use Rattle.pcep_model.specs.Pcreq.{list_in, carried}
use Rattle.pcep_request_reader.specs.declared.carried.CarriedRequest.{CarriedRequest}
use Rattle.model.specs.Verdict.{Pass}

-- the request carried by a message whose frame passes, with the ingress domain beside it, whatever the profile
pub record CarriedRequestIs (ingress : ℕ) (s : List ℕ) (r : CarriedRequest) : Type 0 where
  pub verdict : message_verdict Pcreq s ≡ Pass
  pub request
      : (profile : List ℕ)
      → request_for profile r.asked (list_in s r.include) (list_in s r.exclude) ≡ carried profile ingress s
  pub include-inside : r.include.start + r.include.size ≤ length s
  pub exclude-inside : r.exclude.start + r.exclude.size ≤ length s

abbrev pub CarriedIs : ℕ → List ℕ → Result CarriedRequest Refusal → Type 0
CarriedIs ingress s (Err x) = message_verdict Pcreq s ≡ Err x
CarriedIs ingress s (Ok r) = CarriedRequestIs ingress s r
