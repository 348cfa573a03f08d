-- What the parts of `write_pcrep` promise, over the definitions of `pcep_model`.
use Rattle.std.specs.Prelude.{◌≡◌, Bool, not, ◌||◌, List, ℕ, ◌≤◌, eqb, ltb, length, Result}
use Rattle.model.specs.declared.Refusal.{Refusal}
use Rattle.model.specs.Lists.{any, over}
use Rattle.model.specs.Verdict.{Verdict, refuse_if, ◌and_then◌}
use Rattle.model.specs.Answers.{numbers_of_write}
use Rattle.model.specs.Calls.{room_verdict}
use Rattle.pcep_model.specs.Metrics.{out_of_range}
use Rattle.pcep_model.specs.Pcrep.{Reply, metrics_of, write_pcrep}
use Rattle.pcep_reply_writer.specs.Lengths.{message_length, Together}

-- the reply that the parameters of `write_pcrep` stand for
abbrev pub reply_of : ℕ → ℕ → Bool → List ℕ → ℕ → Bool → List ℕ → List ℕ → List ℕ → Reply
reply_of id flags found addresses nature c kinds metric_flags values =
    record {
      request_id = id;
      rp_flags = flags;
      found = found;
      addresses = addresses;
      nature = nature;
      c_flag = c;
      metrics = metrics_of kinds metric_flags values;
    }

-- by their counts the METRIC lists don't belong together, or the message is too long
abbrev pub malformed_reply : ℕ → ℕ → ℕ → ℕ → Bool
malformed_reply size kinds flags values = (not (eqb flags kinds) || not (eqb values kinds)) || ltb 65535 size

-- the checks by the message's length, the numbers of kinds and flags, and the values
abbrev pub reply_verdict : ℕ → ℕ → ℕ → List ℕ → ℕ → Verdict
reply_verdict size kinds flags values room =
    refuse_if (malformed_reply size kinds flags (length values)) 37 0
    and_then refuse_if (any out_of_range values) 21 1
    and_then room_verdict size room

-- the message fits its length field and the buffer, and the METRIC lists belong together
pub record Fits (found : Bool) (addresses kinds flags values out : List ℕ) (size : ℕ) : Type 0 where
  pub told : size ≡ message_length found (length addresses) (length kinds)
  pub short : size ≤ 65535
  pub room : size ≤ length out
  pub together : Together kinds flags values

-- the numbers answered and the buffer at exit are those of the definition
pub record WrittenReply (reply : Reply) (unequal : Bool) (entry exit : List ℕ) (answer : Result ℕ Refusal) : Type 0 where
  pub numbers : numbers_of_write answer ≡ (write_pcrep reply unequal (length entry)).numbers
  pub buffer : exit ≡ over (write_pcrep reply unequal (length entry)).written entry
