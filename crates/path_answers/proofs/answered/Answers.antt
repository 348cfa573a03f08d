-- `path_answers::answered` meets its contract, by whether a path was found.
use native.Mathlib.Numerals.{add-one}
use Rattle.model.specs.Path.{shortest_paths}
use Rattle.model.specs.Calls.{greater_than}
use Rattle.path_answers.specs.PathReply.{none_number}
use Rattle.path_answers.proofs.Answers.{none-by, found-by}
use Rattle.path_answers.proofs.answered.Goals as goal

pub returns-in_default : goal.returns-in_default
returns-in_default c =
    let a = c.args in
    λ S given room is fits.
    none-by a.sought.round a.again _ (greater_than given (shortest_paths S)) room c.none_answer.ensures (is.missing c.in_default.is)

pub returns : goal.returns
returns c =
    let a = c.args in
    let float = c.total_float.ensures in
    λ S given room is fits.
    found-by (none_number a.again) a.sought.round S given a.count _ room _ _ (is.there _ c.in-Some.is) c.requires fits (add-one a.count) float.0 float.1
