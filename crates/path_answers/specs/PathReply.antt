-- What a call for a path gives, by value, over the outcome that `Calls` of `model` gives for it.
use Rattle.std.specs.Prelude.{◌≡◌, Bool, true, false, ℕ, ◌≤◌, length, take, replicate, Result, Ok, Err}
use Rattle.model.specs.Lists.{over}
use Rattle.model.specs.declared.Refusal.{Refusal}
use Rattle.model.specs.declared.PathAnswer.{PathAnswer}
use Rattle.model.specs.declared.PathAnswer.TheVariants.{NoPath, End}
use Rattle.model.specs.Answers.{refused4, numbers_of_path}
use Rattle.model.specs.Calls.{Outcome, nothing}
use Rattle.path_answers.specs.declared.PathReply.{PathReply}
use Rattle.path_answers.specs.Numbers.{Real}

-- where there is no path: for next nothing greater, for first no admissible path
abbrev pub none_answer : Bool → PathAnswer
none_answer true = End
none_answer false = NoPath

abbrev pub none_number : Bool → ℕ
none_number true = 2
none_number false = 1

-- its numbers are the outcome's, and the first `count` addresses of its path are what is written, with nothing behind them: at most 17, and no more than there is room for
pub record Replied (o : Outcome ℕ) (room : ℕ) (r : PathReply) : Type 0 where
  pub numbers_are : numbers_of_path (Ok r.answer) ≡ o.numbers
  pub written_is : take r.count r.path ≡ o.written
  pub cells_are : r.path ≡ over o.written (replicate 17 0)
  pub few : r.count ≤ 17
  pub fits : r.count ≤ room
  pub long : length r.path ≡ 17
  pub real : Real (Ok r.answer)

-- refused, the numbers are the refusal's, and nothing is written
abbrev pub ReplyIs : Outcome ℕ → ℕ → Result PathReply Refusal → Type 0
ReplyIs o room (Ok r) = Replied o room r
ReplyIs o room (Err r) = o ≡ nothing (refused4 r)
