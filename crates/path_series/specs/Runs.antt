-- What a run of a series answers and leaves, over `replies` of `model`.
use Rattle.std.specs.Prelude.{ℕ, ◌≡◌, Bool, true, false, List, length, Result, Ok, Err}
use Rattle.model.specs.Lists.{each, over}
use Rattle.model.specs.Request.{Request}
use Rattle.model.specs.Series.{Reply, replies}
use Rattle.path_answers.specs.Numbers.{five_of}
use Rattle.path_series.specs.declared.MalformedSeries.{MalformedSeries}
use Rattle.path_series.specs.Calls.{calls_of, malformed}

-- the five numbers of a call, and its buffer
abbrev pub numbers_of : Reply → List ℕ
numbers_of x = five_of x.numbers

abbrev pub buffer_of : Reply → List ℕ
buffer_of x = x.buffer

-- every buffer and every number of a list of replies, in their order; numbers past them stay
pub record Left (replies : List Reply) (numbers buffers' numbers' : List ℕ) : Type 0 where
  pub in_buffers : buffers' ≡ each buffer_of replies
  pub in_numbers : numbers' ≡ over (each numbers_of replies) numbers

-- the number that the C interface returns; 100 is none of document 01's
abbrev pub number_of_series : Result (Unit {0}) MalformedSeries → ℕ
number_of_series (Ok _) = 0
number_of_series (Err _) = 100

abbrev pub answer_if : Bool → Result (Unit {0}) MalformedSeries
answer_if true = Err _
answer_if false = Ok tt

-- malformed arguments leave all as it is; else the whole outcome is that of the calls: one claim about the series
abbrev pub LeftIf : Bool → Request → List ℕ → List ℕ → List ℕ → List ℕ → List ℕ → List ℕ → Type 0
LeftIf true request kinds sizes buffers numbers buffers' numbers' = (buffers' ≡ buffers) × (numbers' ≡ numbers)
LeftIf false request kinds sizes buffers numbers buffers' numbers' = Left (replies request (calls_of kinds sizes buffers)) numbers buffers' numbers'

pub record RunIs (request : Request) (kinds sizes buffers numbers : List ℕ) (answer : Result (Unit {0}) MalformedSeries) (buffers' numbers' : List ℕ) : Type 0 where
  pub told : answer ≡ answer_if (malformed kinds sizes (length buffers) (length numbers))
  pub left : LeftIf (malformed kinds sizes (length buffers) (length numbers)) request kinds sizes buffers numbers buffers' numbers'
