-- One call of a series: what its reply answers and hands out, where it is put, and the path last handed out afterwards.
use Rattle.std.specs.Prelude.{ℕ, ◌*◌, ◌≡◌, Bool, true, false, List, take, replicate, Result, Ok, Err}
use Rattle.std.proofs.Math.Seq.{paste}
use Rattle.model.specs.declared.PathAnswer.{PathAnswer}
use Rattle.model.specs.declared.Refusal.{Refusal}
use Rattle.model.specs.Answers.{numbers_of_path}
use Rattle.path_answers.specs.declared.PathReply.{PathReply}
use Rattle.path_answers.specs.Numbers.{five_of}
use Rattle.path_series.specs.declared.calls.LastPath.{LastPath}

-- what a reply answers, without its path
abbrev pub answer_of : Result PathReply Refusal → Result PathAnswer Refusal
answer_of (Ok reply) = Ok reply.answer
answer_of (Err r) = Err r

-- and the path that it hands out, none where it refuses
abbrev pub handed_out : Result PathReply Refusal → LastPath
handed_out (Ok reply) = record { path = reply.path; count = reply.count }
handed_out (Err r) = record { path = replicate 17 0; count = 0 }

-- the reply to call j put: its path at a place of the buffers, its five numbers behind those of the calls before, and all beside them as it was
pub record ReplyPut (reply : Result PathReply Refusal) (buffers : List ℕ) (at : ℕ) (numbers : List ℕ) (j number : ℕ) (buffers' numbers' : List ℕ) : Type 0 where
  pub number_is : number ≡ (numbers_of_path (answer_of reply)).answer
  pub in_buffers : buffers' ≡ paste buffers at (handed_out reply).path (handed_out reply).count
  pub in_numbers : numbers' ≡ paste numbers (5 * j) (five_of (numbers_of_path (answer_of reply))) 5

-- the path last handed out
abbrev pub last_of : LastPath → List ℕ
last_of last = take last.count last.path

-- after a call: the reply's where it hands one out, else the one before
abbrev pub last_path_after : Bool → Result PathReply Refusal → LastPath → LastPath
last_path_after true reply before = handed_out reply
last_path_after false reply before = before
