-- The claims about paths, first, next and series for accepted requests, with nothing assumed but that the profile is bytes: what the other modules show of
-- a listing in order, put together with what acceptance says of the profile. The claims that speak of more are passed on under their names.
use mathlib.Core.Path.{◌≡◌, refl, ◌∙◌, ap}
use mathlib.Core.List.{List, [], ◌∷◌, ◌++◌}
use mathlib.Core.Logic.{◌↔◌}
use Prim.Native.Nat.{ℕ, suc, ◌≤◌, ◌<◌}
use lib.ListN.{length}
use Rattle.model.specs.Profile.{hops}
use Rattle.model.specs.Sequence.{Stop, Reading, refused, good}
use Rattle.model.specs.Request.{Request, layout_for, Accepted, sequence_of, search_in}
use Rattle.model.specs.Path.{legs, paths, shortest_paths}
use Rattle.model.specs.Rounds.{round_of, search_of}
use Rattle.model.specs.Calls.{path_length, first, next}
use Rattle.model.specs.Series.{Call, book, replies_by, replies, run}
use Rattle.laws.proofs.BigEndian.{Bytes}
use Rattle.laws.proofs.Accepted.{accepted}
use Rattle.laws.proofs.HopKeys.{SortedHops}
use Rattle.laws.proofs.HopOrder.{hops_sorted}
use Rattle.laws.proofs.AcceptedRequest.{accepted-profile}
use Rattle.laws.proofs.AcceptedPaths.{accepted-paths}
use Rattle.laws.proofs.Suffixes.{suffix_length}
use Rattle.laws.proofs.PathsAreThePaths.{ThePaths, length_legs, paths_ascend}
use Rattle.laws.proofs.ShortestPathsExact.{Ascending, EachLong, ShortestPaths}
use Rattle.laws.proofs.ShortestPathsExact.{shortest_paths_exact as shortest-of-paths, shortest_ascending, shortest_long}
use Rattle.laws.proofs.RoundExact.{RoundExact}
use Rattle.laws.proofs.RoundExact.{round_exact as round-of-paths}
use Rattle.laws.proofs.TallyMost.{TallyMost}
use Rattle.laws.proofs.TallyMost.{tally_most as tally-of-rounds}
use Rattle.laws.proofs.FirstNextExact.{FirstExact, NextExact}
use Rattle.laws.proofs.FirstNextExact.{first_exact as first-of-listing, next_exact as next-of-listing}
use Rattle.laws.proofs.SeriesIsBook.{series-is-book as series-of-listing, series-refused}
use Rattle.laws.proofs.SeriesListing.{first_with, next_with, first_then_nexts, handed_out, Roomy, last_handed, last_path, reply_at, hands_out, tells_end, tells_none}
pub use Rattle.laws.proofs.ClassesApart.{classes_apart}
pub use Rattle.laws.proofs.Nobodys.{profile_owned, list_owned}
pub use Rattle.laws.proofs.NobodysAbsent.{nobodys_absent}
pub use Rattle.laws.proofs.TreeLeast.{tree-least}
pub use Rattle.laws.proofs.BoundExact.{bound_exact, bandwidth_exact}
pub use Rattle.laws.proofs.NearestFloat.{float_exact, float_nearest, float_within_eight}
pub use Rattle.laws.proofs.ReadsBack.{reads-back, written-short}
pub use Rattle.laws.proofs.Lacking.{lacking-clear, lacking_desired, lacking-inserted, clear-inserted}
pub use Rattle.laws.proofs.OwnStop.{own_stop, own-stop-clear, idle}

module _ (r : Request) (sequence : List Stop) (bytes : Bytes r.profile) (yes : Accepted r sequence) where
  sorted : SortedHops (hops (layout_for r) r.profile)
  sorted = hops_sorted (layout_for r) r.profile bytes (accepted (layout_for r) r.profile (accepted-profile r sequence yes))

  ascending : Ascending (paths (search_of r sequence))
  unfolding search_of search_in
  ascending = paths_ascend (search_of r sequence) sorted

  each_long : EachLong (path_length sequence) (paths (search_of r sequence))
  unfolding paths search_of search_in
  each_long p m = suffix_length (search_of r sequence) (legs sequence) 0 r.source p m ∙ ap suc (length_legs sequence)

  -- a list is among the paths exactly when it is a path; each once, ascending; its total is the sum of its hops' costs, at most 268,435,440
  pub paths_are_the_paths : ThePaths (search_of r sequence)
  paths_are_the_paths = accepted-paths r sequence yes sorted

  -- listed exactly when admissible and every other admissible path costs at least as much; each once, ascending
  pub shortest_paths_exact : ShortestPaths (search_of r sequence)
  shortest_paths_exact = shortest-of-paths (search_of r sequence) ascending

  -- the second round applies exactly when the first has no admissible path and some exclusion has X set; then only the exclusions of X clear count
  pub round_exact : RoundExact r sequence
  round_exact = round-of-paths r sequence sorted

  -- the tally is at most the hop count in the first round, and twice that over both
  pub tally_most : TallyMost r sequence
  tally_most = tally-of-rounds r sequence yes

  -- first answers 1 exactly when the listing is empty, else with its path 0
  pub first_exact : (room : ℕ) → path_length sequence ≤ room → FirstExact (round_of r sequence) (shortest_paths (search_of r sequence)) (first r room)
  first_exact = first-of-listing r sequence yes

  -- next answers 2 exactly when nothing listed is greater, else with the least that is; after path i it gives path i + 1, after the last it answers 2
  pub next_exact : (room : ℕ) → path_length sequence ≤ room → NextExact (round_of r sequence) (shortest_paths (search_of r sequence)) (path_length sequence) (λ given. next r given room)
  next_exact = next-of-listing r sequence yes ascending each_long

  -- every list of calls, with buffers of any length and content, is answered as document 01's book answers it: every number and every buffer
  pub series-is-book : (calls : List Call) → run r [] calls ≡ book (round_of r sequence) (shortest_paths (search_of r sequence)) (path_length sequence) 0 calls
  series-is-book = series-of-listing r sequence yes ascending each_long

  -- with room in every buffer, a first and then nexts hand out the whole listing in order, a path for each call, and then 2 for each: nothing else
  pub series-hands-out
      : 0 < length (shortest_paths (search_of r sequence))
      → (buffers : List (List ℕ)) → Roomy (path_length sequence) buffers
      → run r [] (first_then_nexts buffers) ≡ handed_out (round_of r sequence) (shortest_paths (search_of r sequence)) buffers
  series-hands-out some buffers room = series-is-book (first_then_nexts buffers) ∙ hands_out (round_of r sequence) (shortest_paths (search_of r sequence)) (path_length sequence) some buffers room

  -- in any series a next with room, once a path was handed out, answers 2 exactly when the path last handed out is the listing's last
  pub series-tells-end
      : (before : List Call) (buffer : List ℕ) (behind : List Call) → path_length sequence ≤ length buffer
      → 0 < length (last_handed (path_length sequence) [] (run r [] before))
      → ((reply_at (length before) (run r [] (before ++ (next_with buffer ∷ behind)))).numbers.answer ≡ 2)
      ↔ (last_handed (path_length sequence) [] (run r [] before) ≡ last_path (shortest_paths (search_of r sequence)))
  series-tells-end before buffer behind room =
      rw (series-is-book before, series-is-book (before ++ (next_with buffer ∷ behind)))
      (tells_end (round_of r sequence) (shortest_paths (search_of r sequence)) (path_length sequence)
      (shortest_ascending (search_of r sequence) ascending)
      (shortest_long (search_of r sequence) (path_length sequence) each_long)
      before
      buffer
      behind
      room)

  -- in any series a first with room answers 1 exactly when the listing is empty
  pub series-tells-none
      : (before : List Call) (buffer : List ℕ) (behind : List Call) → path_length sequence ≤ length buffer
      → ((reply_at (length before) (run r [] (before ++ (first_with buffer ∷ behind)))).numbers.answer ≡ 1) ↔ (shortest_paths (search_of r sequence) ≡ [])
  series-tells-none before buffer behind room =
      rw (series-is-book (before ++ (first_with buffer ∷ behind)))
      (tells_none (round_of r sequence) (shortest_paths (search_of r sequence)) (path_length sequence) before buffer behind room)

-- every list of calls on any request: as document 01's book answers it, or, where the request is refused, each call with the refusal
pub series-replies : (r : Request) → Bytes r.profile → (calls : List Call) → run r [] calls ≡ replies r calls
unfolding replies
series-replies r bytes calls = go (sequence_of r) refl
  where
    go : (x : Reading (List Stop)) → sequence_of r ≡ x → run r [] calls ≡ replies_by r x calls
    go (refused x) e = series-refused r x e [] calls
    go (good sequence) e = series-is-book r sequence bytes e calls
