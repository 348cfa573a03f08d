-- What the pass that notes entry nodes keeps in its list of 16: the first `count` places hold the nodes, and the places past them repeat some of these.
use Rattle.std.specs.Prelude.{ℕ, ◌≤◌, ◌<◌, ◌≡◌, true, cond, ◌||◌, ◌+◌, List, length, take, drop, eqb}
use Rattle.model.specs.Lists.{among}

abbrev pub Padded : List ℕ → ℕ → Type 0
Padded noted count = 0 < count → (y : ℕ) → among y (drop count noted) ≡ true → among y (take count noted) ≡ true

-- `new` has what `old` had, and the node, in its first `after` places, if there is room for so many
pub record Added (old : List ℕ) (count node : ℕ) (new : List ℕ) (after : ℕ) : Type 0 where
  pub long : length new ≡ 16
  pub padded : after ≤ 16 → Padded new after
  pub same : after ≤ 16 → (y : ℕ) → among y (take after new) ≡ among y (take count old) || eqb y node

-- how many they are with the node
abbrev pub with_node : List ℕ → ℕ → ℕ → ℕ
with_node noted count node = cond (among node (take count noted)) count (count + 1)
