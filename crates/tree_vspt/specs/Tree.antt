-- The numbers of all places from one on, as they stand one after the other behind the places before.
use Rattle.std.specs.Prelude.{List, map, ℕ, suc, ◌-◌, ◌≡◌, length, take}
use Rattle.std.proofs.Math.Seq.{slice, paste}
use Rattle.model.specs.Lists.{count_from, each}
use Rattle.model.specs.Request.{Search}
use Rattle.model.specs.Profile.{Layout}
use Rattle.laws.specs.Lists.{Lists}
use Rattle.tree_levels.specs.Levels.{nodes_at, start_of, LaidOut}
use Rattle.request.specs.declared.Query.{Query}
use Rattle.request.specs.Query.{search_for}
use Rattle.tree_reaches.specs.Reaches.{code_at}

-- the numbers of n places, from place i on
unfoldable pub codes_from : Search → ℕ → ℕ → List ℕ
codes_from S i n = each (λ (j : ℕ). map (code_at S j) (nodes_at S j)) (count_from i n)

-- a list with these numbers written where place i starts; what stands before and behind them is untouched
abbrev pub filled_from : Search → ℕ → ℕ → List ℕ → List ℕ
filled_from S i n old = paste old (start_of S i) (codes_from S i n) (length (codes_from S i n))

-- the numbers of one place stand where it starts; and a list with them written there
abbrev pub Holds : Search → ℕ → List ℕ → Type 0
Holds S i codes = slice (start_of S i) (start_of S (suc i)) codes ≡ map (code_at S i) (nodes_at S i)

abbrev pub filled_at : Search → ℕ → List ℕ → List ℕ
filled_at S i old = paste old (start_of S i) (map (code_at S i) (nodes_at S i)) (length (map (code_at S i) (nodes_at S i)))

-- the numbers of all places from place i on, the end's too, stand behind those before it
abbrev pub HoldsFrom : Search → ℕ → List ℕ → Type 0
HoldsFrom S i codes = slice (start_of S i) (start_of S (suc (length S.sequence))) codes ≡ codes_from S i (suc (length S.sequence) - i)

-- what is laid out for a query
pub record LaidOutFor (L : Layout) (s : List ℕ) (lists : Lists) (q : Query) (addresses starts firsts lasts : List ℕ) : Type 0 where
  pub examined : ℕ
  pub laid : LaidOut (search_for L s lists q) L s addresses starts firsts lasts examined

-- the numbers of all places stand at the start of a list
abbrev pub TreeCodes : Search → List ℕ → Type 0
TreeCodes S codes = take (start_of S (suc (length S.sequence))) codes ≡ codes_from S 0 (suc (length S.sequence))

-- the whole tree in numbers: the places' addresses, and beside each its number, at the start of two lists; and what was laid out on the way
pub record WorkedOut (L : Layout) (s : List ℕ) (S : Search) (addresses codes starts firsts lasts : List ℕ) (examined : ℕ) : Type 0 where
  pub laid : LaidOut S L s addresses starts firsts lasts examined
  pub codes_are : TreeCodes S codes
