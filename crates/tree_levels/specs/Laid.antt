-- The levels as code has them: with room for all of it, and laid out for a search.
use Rattle.std.specs.Prelude.{List, ℕ}
use Rattle.model.specs.Profile.{Layout}
use Rattle.model.specs.Request.{Search}
use Rattle.tree_levels.specs.declared.Levels.{Levels}
use Rattle.tree_levels.specs.Levels.{Room, LaidOut}

abbrev pub RoomIn : Levels → Type 0
RoomIn v = Room v.addresses v.starts v.firsts v.lasts

abbrev pub LaidOutIn : Search → Layout → List ℕ → Levels → ℕ → Type 0
LaidOutIn S L s v examined = LaidOut S L s v.addresses v.starts v.firsts v.lasts examined
