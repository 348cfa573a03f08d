-- The first hop record that is taken, of those that leave an entry, is the first wanted hop on a shortest way; and its head reaches the destination, by the number
-- found there. The tests are the same in another order, and what stands beside a head is what is least there.
use mathlib.Core.Path.{◌≡◌, refl, sym, ap, subst, ◌∙◌}
use mathlib.Core.Bool.{Bool, true, false, ◌&&◌}
use mathlib.Core.List.{List, ◌∷◌, head?, map, Memᴰ}
use Rattle.std.specs.Prelude.{Option, Some, None}
use Prim.Native.Nat.{ℕ, suc, ◌≤◌, ◌<◌}
use native.Mathlib.Omega.{arith}
use lib.Dec.{eqb}
use lib.ListN.{length}
use lib.Seq.{slice}
use Rattle.model.specs.declared.Hop.{Hop}
use Rattle.model.specs.declared.Limits.{Limits}
use Rattle.model.specs.Floats.{at_least}
use Rattle.model.specs.Lists.{keep}
use Rattle.model.specs.Profile.{hops, between, cost_limit}
use Rattle.model.specs.Request.{Search}
use Rattle.model.specs.Path.{Leg, leg_at, leaves, hops_from}
use Rattle.model.specs.Tree.{suffixes_at}
use Rattle.laws.proofs.Tests.{and_both}
use Rattle.laws.proofs.Lists.{keep_mem, keep_agree}
use Rattle.laws.proofs.Picks.{keep-keep}
use Rattle.laws.proofs.Firsts.{head?-mem}
use Rattle.laws.specs.Reach.{least_from, reach_from}
use Rattle.laws.proofs.TreeLeast.{legs_left}
use Rattle.laws.specs.Descent.{on_shortest}
use Rattle.laws.proofs.Split.{shortest_hops-mem, shortest_hops-records}
use Rattle.profile_hop_range.specs.Ranges.{leaves_node, TailRange}
use Rattle.request.specs.Query.{query_domain}
use Rattle.tree_vspt.specs.Leg.{next_place}
use Rattle.tree_reaches.specs.Reaches.{code_if, code_of, reach_of, code_at, beside}
use Rattle.tree_reaches.proofs.Codes.{code_reach}
use Rattle.tree_vspt.proofs.Known.{code_is, cost-bound, reach_back, head-known}
use Rattle.tree_levels.specs.Levels.{nodes_at}
use Rattle.path_step.specs.declared.Judge.{Judge}
use Rattle.path_step.specs.declared.Onward.{Onward}
use Rattle.path_step.specs.declared.WorkedTree.{WorkedTree}
use Rattle.path_step.specs.Worked.{layout_in, Worked, Stands}
use Rattle.path_step.specs.Onward.{is_wanted, wanted_hops, next_nodes, next_codes, left_at, is_taken, legs_from, shortest_at, FirstTaken, OnwardIs}
use Rattle.path_step.proofs.Places.{in_sequence, few, cheap, leg-is}

-- the code's tests in one order, the definition's in another
reordered : (b t u w o : Bool) → (b && t) && (u && (w && o)) ≡ ((b && (t && u)) && o) && w
reordered true true true true true = refl
reordered true true true true false = refl
reordered true true true false true = refl
reordered true true true false false = refl
reordered true true false w o = refl
reordered true false u w o = refl
reordered false t u w o = refl

-- a hop record as it is judged at a place of the query's sequence
module _
    (S : Search) (T : WorkedTree) (w : Worked S T) (i : ℕ) (h : i < T.query.count) (by : Judge)
    (asked-is : by.asked ≡ T.query.limits.bandwidth) (nodes-are : next_nodes by ≡ nodes_at S (suc i)) (codes-are : next_codes by ≡ map (code_at S (suc i)) (nodes_at S (suc i)))
  where
    inside : i < length S.sequence
    inside = in_sequence S T w i h

    short : length S.sequence ≤ 16
    short = few S T w i h

    low : (x : Hop) → Memᴰ x S.hops → x.cost ≤ cost_limit
    low = cheap S T w i h

    -- what stands beside the head of a hop of the leg
    known
        : (x : Hop) → Memᴰ x S.hops → between (leg_at S i).from (leg_at S i).to x ≡ true
        → reach_of (left_at by x.head.0) ≡ least_from (suffixes_at S (suc i) x.head.0)
    known x m t = (λ j. reach_of (beside (nodes-are j) (codes-are j) x.head.0)) ∙ head-known S short low i inside x m t

    module _ (a : ℕ) (stands : Stands S i a by.here) where
      here_is : reach_of by.here ≡ reach_from S (leg_at S i ∷ legs_from S (suc i)) i a
      here_is =
          ap reach_of stands.number
          ∙ reach_back S short low i a
          ∙ ap (λ (ls : List Leg). reach_from S ls i a) (legs_left S i inside)

      -- the wanted hops on a shortest way as one test on the hop records
      wanted-records
          : wanted_hops by.which (shortest_at S i a)
          ≡ keep (λ (x : Hop). (leaves S (leg_at S i) a x && on_shortest (reach_of by.here) x (reach_of (left_at by x.head.0))) && is_wanted by.which x.head.0) S.hops
      wanted-records =
          ap (wanted_hops by.which)
          (shortest_hops-records S (leg_at S i) (legs_from S (suc i)) i a (reach_of by.here) (λ (v : ℕ). reach_of (left_at by v)) here_is
          (λ x m t. known x m (and_both _ _ t).0))
          ∙ keep-keep (λ (x : Hop). is_wanted by.which x.head.0) _ S.hops

      -- those that the code takes
      taken-wanted
          : (first last : ℕ) → TailRange (layout_in T) T.profile.now (query_domain T.query i) (query_domain T.query (next_place T.query.count i)) a first last
          → keep (is_taken by) (slice first last (hops (layout_in T) T.profile.now)) ≡ wanted_hops by.which (shortest_at S i a)
      taken-wanted first last range =
          let leg = leg-is S T w i h in
          let asked = asked-is ∙ ap (λ (l : Limits). l.bandwidth) (sym w.limits_are) in
          ap (keep (is_taken by)) (sym range.those)
          ∙ keep-keep (is_taken by) (leaves_node (query_domain T.query i) (query_domain T.query (next_place T.query.count i)) a) (hops (layout_in T) T.profile.now)
          ∙ (λ j. keep (λ (x : Hop). leaves_node (sym leg j).from (sym leg j).to a x && (at_least (asked j) x.bandwidth && (is_wanted by.which x.head.0 && on_shortest (reach_of by.here) x (reach_of (left_at by x.head.0))))) (sym w.hops_are j))
          ∙ keep_agree _ _ S.hops
          (λ x m.
          reordered (between (leg_at S i).from (leg_at S i).to x) (eqb x.tail.0 a) (at_least S.limits.bandwidth x.bandwidth)
          (is_wanted by.which x.head.0) (on_shortest (reach_of by.here) x (reach_of (left_at by x.head.0))))
          ∙ sym wanted-records

      -- the head of a hop on a shortest way reaches the destination by what stands beside it
      head-stands : (x : Hop) → Memᴰ x (shortest_at S i a) → Stands S (suc i) x.head.0 (left_at by x.head.0)
      unfolding hops_from
      head-stands x m =
          let on = shortest_hops-mem S (leg_at S i) (legs_from S (suc i)) i a m in
          let leaving = keep_mem (leaves S (leg_at S i) a) S.hops on.leaving in
          let there = known x leaving.0 (and_both _ _ leaving.1).0 in
          let number = sym (code_reach (left_at by x.head.0)) ∙ ap code_of there ∙ sym (code_is S short low (suc i) x.head.0) in
          let cost = code_is S short low (suc i) x.head.0 ∙ ap (λ (b : Bool). code_if b (least_from (suffixes_at S (suc i) x.head.0)).cost) on.reachable in
          record { number = number; reached = omega (arith, number, cost, cost-bound S short low (suc i) x.head.0 on.reachable) }

      pub onward-is
          : (first last : ℕ) (r : Option Onward) → TailRange (layout_in T) T.profile.now (query_domain T.query i) (query_domain T.query (next_place T.query.count i)) a first last
          → FirstTaken by (slice first last (hops (layout_in T) T.profile.now)) r
          → OnwardIs S i a by.which r
      onward-is first last None range f = ap head? (sym (taken-wanted first last range)) ∙ f
      onward-is first last (Some on) range f =
          let first-is = ap head? (sym (taken-wanted first last range)) ∙ f.first in
          let m = (keep_mem (λ (x : Hop). is_wanted by.which x.head.0) (shortest_at S i a) (head?-mem (wanted_hops by.which (shortest_at S i a)) first-is)).0 in
          record {
            hop = f.hop;
            first = first-is;
            head-is = sym (ap (λ (o : Onward). o.head) f.is);
            stands = subst (λ (o : Onward). Stands S (suc i) o.head.0 o.reach) (sym f.is) (head-stands f.hop m);
          }
