-- The outcomes of first and next for a request as it was checked: refused, 33, 34, or the first of the shortest paths above the given list. From what the checks say.
use Rattle.std.specs.Prelude.{Result, Ok, Err}
use mathlib.Core.Path.{◌≡◌, refl, sym, ap, ◌∙◌}
use mathlib.Core.Bool.{not}
use mathlib.Core.List.{List, []}
use Prim.Native.Nat.{ℕ, suc, ◌≤◌}
use native.Mathlib.Omega.{arith}
use lib.Dec.{eqb, ltb}
use lib.ListN.{length}
use borrow.Author.Tests.{not-false, ltb-false, eqb-true}
use Rattle.model.specs.declared.Refusal.{Refusal}
use Rattle.model.specs.declared.Round.{Round}
use Rattle.model.specs.Lists.{below, over}
use Rattle.model.specs.Verdict.{Verdict, Pass, refuse_if}
use Rattle.model.specs.Profile.{layout_in}
use Rattle.model.specs.Sequence.{Stop, Reading}
use Rattle.model.specs.Request.{Request, Search}
use Rattle.model.specs.Path.{legs, keeps_bound, Route, paths, admissible, shortest_paths}
use Rattle.model.specs.Answers.{refused4}
use Rattle.model.specs.Calls.{nothing, first_of, answer_path, room_verdict, given_verdict, path_length, first_into, first, greater_than, next_into, next}
use Rattle.laws.specs.Lists.{lists_of}
use Rattle.laws.proofs.Lists.{keep_all, keep_mem}
use Rattle.laws.proofs.Turns.{refuse_if_pass, and_then_pass}
use Rattle.laws.proofs.Suffixes.{suffix_begins}
use Rattle.laws.proofs.Cheapest.{cheapest_mem}
use Rattle.request.specs.declared.Asked.{Asked}
use Rattle.request.specs.declared.Query.{Query}
use Rattle.request.specs.Query.{query_stops, search_for, in_round, round_for}
use Rattle.request.specs.CheckedRequest.{request_for, RequestIs}
use Rattle.request.proofs.Requests.{refused-request, accepted-request, round-request, search-request}
use Rattle.tree_vspt.proofs.Sequences.{stops-long}

-- nothing written over a list
pub nothing_over : (xs : List ℕ) → xs ≡ over [] xs
unfolding over
nothing_over xs = refl

-- above no list at all are all paths
pub all_above-nothing : (S : Search) → greater_than [] (shortest_paths S) ≡ shortest_paths S
unfolding greater_than shortest_paths admissible paths below
all_above-nothing S =
    keep_all (λ (p : Route). below [] p.addresses) (shortest_paths S)
    (λ r m.
    let k = (cheapest_mem (admissible S) m).0 in
    let n = (keep_mem (λ (p : Route). keeps_bound S.limits p.total) (paths S) k).0 in
    ap (below []) (suffix_begins S (legs S.sequence) 0 S.source r n).1)

-- what passes has room for a path, and a given list of its length
pub room-there : (long room : ℕ) → room_verdict long room ≡ Pass → long ≤ room
room-there long room e = omega (arith, ltb-false room long ((refuse_if_pass (ltb room long) 34 0).0 e))

pub given-fits : (given long room : ℕ) → given_verdict given long room ≡ Pass → (given ≡ long) × (long ≤ room)
given-fits given long room e =
    let both = (and_then_pass (refuse_if (not (eqb given long)) 33 0) (room_verdict long room)).0 e in
    (eqb-true given long (not-false (eqb given long) ((refuse_if_pass (not (eqb given long)) 33 0).0 both.0)), room-there long room both.1)

module _ (P : List ℕ) (asked : Asked) (I E : List ℕ) (r : Result Query Refusal) (is : RequestIs P asked I E r) (room : ℕ) where
  abbrev req : Request
  req = request_for P asked I E

  module _ (why : Refusal) (e : r ≡ Err why) where
    pub first_refused : first req room ≡ nothing (refused4 why)
    unfolding first
    first_refused = ap (λ (y : Reading (List Stop)). first_into req y room) (refused-request P asked I E r is why e)

    pub next_refused : (given : List ℕ) → next req given room ≡ nothing (refused4 why)
    unfolding next
    next_refused given = ap (λ (y : Reading (List Stop)). next_into req y given room) (refused-request P asked I E r is why e)

  module _ (q : Query) (e : r ≡ Ok q) where
    abbrev x : Round
    x = round_for (layout_in P) P (lists_of I E) q

    abbrev S : Search
    S = search_for (layout_in P) P (lists_of I E) (in_round x q)

    needed : path_length (query_stops I q) ≡ suc q.count
    needed = ap suc (stops-long I q)

    first_accepted : first req room ≡ answer_path (room_verdict (suc q.count) room) x 1 (shortest_paths S)
    unfolding first
    first_accepted =
        ap (λ (y : Reading (List Stop)). first_into req y room) (accepted-request P asked I E r is q e)
        ∙ (λ j. answer_path (room_verdict (needed j) room) (round-request P asked I E r is q e j) 1 (shortest_paths (search-request P asked I E r is q e j)))

    pub first_unlent : (why : Refusal) → room_verdict (suc q.count) room ≡ Err why → first req room ≡ nothing (refused4 why)
    first_unlent why f = first_accepted ∙ ap (λ (v : Verdict). answer_path v x 1 (shortest_paths S)) f

    pub first_searched : room_verdict (suc q.count) room ≡ Pass → first req room ≡ first_of x 1 (greater_than [] (shortest_paths S))
    first_searched f =
        first_accepted
        ∙ ap (λ (v : Verdict). answer_path v x 1 (shortest_paths S)) f
        ∙ ap (first_of x 1) (sym (all_above-nothing S))

    module _ (given : List ℕ) where
      next-accepted : next req given room ≡ answer_path (given_verdict (length given) (suc q.count) room) x 2 (greater_than given (shortest_paths S))
      unfolding next
      next-accepted =
          ap (λ (y : Reading (List Stop)). next_into req y given room) (accepted-request P asked I E r is q e)
          ∙ (λ j.
          answer_path (given_verdict (length given) (needed j) room) (round-request P asked I E r is q e j) 2
          (greater_than given (shortest_paths (search-request P asked I E r is q e j))))

      pub next-unlent : (why : Refusal) → given_verdict (length given) (suc q.count) room ≡ Err why → next req given room ≡ nothing (refused4 why)
      next-unlent why f = next-accepted ∙ ap (λ (v : Verdict). answer_path v x 2 (greater_than given (shortest_paths S))) f

      pub next-searched : given_verdict (length given) (suc q.count) room ≡ Pass → next req given room ≡ first_of x 2 (greater_than given (shortest_paths S))
      next-searched f = next-accepted ∙ ap (λ (v : Verdict). answer_path v x 2 (greater_than given (shortest_paths S))) f
