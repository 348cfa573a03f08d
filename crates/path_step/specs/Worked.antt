-- What an engine has once the tree is worked out, and an entry from which the destination can be reached.
use Rattle.std.specs.Prelude.{◌≡◌, true, List, ℕ, ◌≤◌, ◌<◌, length, get_or}
use Rattle.model.specs.Floats.{in_range}
use Rattle.model.specs.Profile.{Layout, hops}
use Rattle.model.specs.Request.{Search}
use Rattle.profile_records.specs.Layout.{layout_of, RightProfile}
use Rattle.request.specs.Query.{query_stops}
use Rattle.tree_reaches.specs.Reaches.{unreachable, code_at}
use Rattle.tree_vspt.specs.Tree.{WorkedOut}
use Rattle.path_step.specs.declared.WorkedTree.{WorkedTree}

abbrev pub layout_in : WorkedTree → Layout
layout_in T = layout_of T.layout

-- a right profile, a query and the five lists of the tree, for one search
pub record Worked (S : Search) (T : WorkedTree) : Type 0 where
  pub right : RightProfile (layout_in T) T.profile.now
  pub bytes : (i : ℕ) → get_or T.profile.now i 0 < 256
  pub bandwidth-right : in_range T.query.limits.bandwidth ≡ true
  pub hops_are : S.hops ≡ hops (layout_in T) T.profile.now
  pub include : List ℕ
  pub sequence-is : S.sequence ≡ query_stops include T.query
  pub limits_are : S.limits ≡ T.query.limits
  pub most : T.query.count ≤ 16
  pub stops-long : length T.query.stops ≡ 16
  pub examined : ℕ
  pub out : WorkedOut (layout_in T) T.profile.now S T.levels.now.addresses T.reaches.now T.levels.now.starts T.levels.now.firsts T.levels.now.lasts examined

-- an address at place i reaches the destination, and this is its number
pub record Stands (S : Search) (i a here : ℕ) : Type 0 where
  pub number : here ≡ code_at S i a
  pub reached : here < unreachable

-- both, for some search: what a call asks for
pub record Ways (T : WorkedTree) (i a here : ℕ) : Type 0 where
  pub search : Search
  pub worked : Worked search T
  pub stands : Stands search i a here
