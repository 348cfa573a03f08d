-- The rounds of a request: document 02, request [1]. First look for admissible paths with every exclusion; if there are none and some exclusion has X set,
-- look again with only those of X clear. First, next and tree all use whichever round applies.
use Rattle.std.specs.Prelude.{ℕ, ◌+◌, Bool, true, false, ◌&&◌, List}
use Rattle.model.specs.declared.Round.{Round}
use Rattle.model.specs.declared.Round.TheVariants.{First, Second}
use Rattle.model.specs.Lists.{is_empty}
use Rattle.model.specs.Subobject.{Subobject}
use Rattle.model.specs.Sequence.{Stop}
use Rattle.model.specs.Exclusion.{some_desired}
use Rattle.model.specs.Request.{Request, Search, all_exclusions, search_in}
use Rattle.model.specs.Path.{admissible}

abbrev pub round_if : Bool → Round
round_if true = Second
round_if false = First

-- the round that applies, by all exclusions and the first round's search: whether a path keeps the bound counts here, for every call
abbrev pub round_by : List Subobject → Search → Round
round_by exclusions S = round_if (some_desired exclusions && is_empty (admissible S))

unfoldable pub round_of : Request → List Stop → Round
round_of r sequence = round_by (all_exclusions r.exclude sequence) (search_in First r sequence)

-- the search that counts for a request: that of its round
unfoldable pub search_of : Request → List Stop → Search
search_of r sequence = search_in (round_of r sequence) r sequence

-- the tally adds both rounds when a second is needed
abbrev pub over_rounds : Round → ℕ → ℕ
over_rounds First n = n
over_rounds Second n = n + n
