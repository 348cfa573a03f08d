-- What is demanded of messages (document 02's request [3]), sentence by sentence, as `Demands` of `laws` has it for the other calls: over the calls' outcomes and the
-- reference series.
use Rattle.std.specs.Prelude.{Ok}
use Prim.Native.Nat.{ℕ, ◌≤◌}
use mathlib.Core.Path.{◌≡◌}
use mathlib.Core.Bool.{Bool}
use mathlib.Core.List.{List, []}
use lib.ListN.{length}
use Rattle.model.specs.Verdict.{Pass}
use Rattle.model.specs.Series.{Call}
use Rattle.laws.proofs.BigEndian.{Bytes}
use Rattle.pcep_model.specs.declared.MessageKind.TheVariants.{Pcreq}
use Rattle.pcep_model.specs.Objects.{message_verdict}
use Rattle.pcep_model.specs.Metrics.{wrong_metric}
use Rattle.pcep_model.specs.Pcreq.{carried, pcreq_run}
use Rattle.pcep_model.specs.Pcrep.{numbers_of_pcrep, read_pcrep, Reply, written_pcrep, write_verdict}
use Rattle.pcep_laws.proofs.QuietMessages.{MessagesQuiet, messages_quiet}
use Rattle.pcep_laws.proofs.PcreqIsRequest.{given_request, IsRequest, pcreq_replies}
use Rattle.pcep_laws.proofs.PcreqIsRequest as Request
use Rattle.pcep_laws.proofs.PcrepFits.{Fits}
use Rattle.pcep_laws.proofs.PcrepReadsBack.{given_addresses, given_fields}
use Rattle.pcep_laws.proofs.PcrepReadsBack as Reply

-- Whatever bytes arrive, a call refuses a bad message itself: on an answer other than 0 nothing is written and every other number but the place is 0.
pub refusals : MessagesQuiet
refusals = messages_quiet

-- A PCReq whose frame passes and whose METRICs are in range stands for the request that it carries, the bound being the first METRIC with B set: tree, first, next and every
-- series through it are those of that request.
pub pcreq-is-request
    : (profile : List ℕ) (ingress : ℕ) (s : List ℕ) → message_verdict Pcreq s ≡ Pass
    → wrong_metric s ≡ 0 → IsRequest profile ingress s (given_request profile ingress s)
pcreq-is-request = Request.pcreq-is-request

-- For any message and any list of calls through it, all answers are those of document 01's book, or each call gives the message's refusal.
pub pcreq-series
    : (profile : List ℕ) (ingress : ℕ) (s : List ℕ) → Bytes profile
    → (calls : List Call) → pcreq_run profile ingress s [] calls ≡ pcreq_replies (message_verdict Pcreq s) (carried profile ingress s) calls
pcreq-series = Request.pcreq-series

-- A PCRep that is written reads back as the same fields, addresses and METRICs.
pub pcrep-reads-back
    : (r : Reply) (unequal : Bool) (room : ℕ) → Fits r → write_verdict r unequal room ≡ Pass
    → (address_room metric_room : ℕ) → length (given_addresses r) ≤ address_room → length r.metrics ≤ metric_room
    → read_pcrep (written_pcrep r) address_room metric_room
    ≡ record { numbers = numbers_of_pcrep (Ok (given_fields r)); addresses = given_addresses r; metrics = r.metrics }
pcrep-reads-back = Reply.pcrep-reads-back
