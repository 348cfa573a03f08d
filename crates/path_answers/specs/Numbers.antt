-- The five numbers of an answer for a path, and the float that it may hold.
use Rattle.std.specs.Prelude.{ℕ, ◌≡◌, false, List, ◌∷◌, Float, Result, Ok}
use Rattle.std.specs.Float.Ieee.{is_nan}
use Rattle.model.specs.declared.Refusal.{Refusal}
use Rattle.model.specs.declared.Round.{Round}
use Rattle.model.specs.declared.PathAnswer.{PathAnswer}
use Rattle.model.specs.declared.PathAnswer.TheVariants.{Found}
use Rattle.model.specs.Answers.{Numbers}

-- answer, place, total, bits of the total's float, round
abbrev pub five_of : Numbers → List ℕ
five_of n = n.answer ∷ n.others

-- a found path's float is a number
abbrev pub Real : Result PathAnswer Refusal → Type 0
Real answer = (n : ℕ) (x : Float) (round : Round) → answer ≡ Ok (Found n x round) → is_nan x ≡ false
