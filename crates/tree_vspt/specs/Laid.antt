-- A query with what is laid out for it, as code has them: its two lists, the search that it stands for, and what a step asks of them.
use Rattle.model.specs.Request.{Search}
use Rattle.laws.specs.Lists.{Lists, lists_of}
use Rattle.profile_records.specs.Layout.{layout_of}
use Rattle.request.specs.Query.{search_for, Ready}
use Rattle.tree_vspt.specs.Tree.{LaidOutFor}
use Rattle.tree_vspt.specs.declared.LaidTree.{LaidTree}

abbrev pub lists_in : LaidTree → Lists
lists_in T = lists_of T.include.now T.exclude.now

abbrev pub search_in : LaidTree → Search
search_in T = search_for (layout_of T.layout) T.profile.now (lists_in T) T.query

-- the query passed its checks
abbrev pub ReadyIn : LaidTree → Type 0
ReadyIn T = Ready (layout_of T.layout) T.profile.now (lists_in T) T.query

-- its places and legs are laid out
abbrev pub LaidIn : LaidTree → Type 0
LaidIn T = LaidOutFor (layout_of T.layout) T.profile.now (lists_in T) T.query T.levels.now.addresses T.levels.now.starts T.levels.now.firsts T.levels.now.lasts
