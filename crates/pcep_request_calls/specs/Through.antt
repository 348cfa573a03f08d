-- What a call for a path through a PCReq answers, and where the path then stands.
use Rattle.std.specs.Prelude.{ℕ, ◌≡◌, List, Result}
use Rattle.model.specs.declared.Refusal.{Refusal}
use Rattle.model.specs.declared.PathAnswer.{PathAnswer}
use Rattle.model.specs.Lists.{over}
use Rattle.model.specs.Answers.{numbers_of_path}
use Rattle.model.specs.Calls.{Outcome}
use Rattle.path_answers.specs.Numbers.{Real}

-- the answer, and the path at the start of its buffer
pub record PathIn (outcome : Outcome ℕ) (path : List ℕ) (r : Result PathAnswer Refusal) (path' : List ℕ) : Type 0 where
  pub real : Real r
  pub numbers : numbers_of_path r ≡ outcome.numbers
  pub in_path : path' ≡ over outcome.written path
