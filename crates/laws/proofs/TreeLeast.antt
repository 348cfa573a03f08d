-- The tree is least: each entry is reachable exactly when a suffix leads from it to the destination, at the least total of one. And the step by which an
-- engine works it out: the least cost at a place from the hop records that leave it and the least costs at their heads. From the laws of `least_from`.
use mathlib.Core.Path.{◌≡◌, refl, sym, subst, ◌∙◌, ap}
use mathlib.Core.Bool.{Bool, true, false}
use mathlib.Core.List.{List, [], ◌∷◌, map, Memᴰ}
use Prim.Native.Nat.{ℕ, suc, ◌<◌}
use native.Mathlib.Omega.{arith}
use lib.ListN.{length, drop}
use lib.Seq.{drop-cons, drop-length}
use Rattle.model.specs.declared.Hop.{Hop}
use Rattle.model.specs.declared.TreeEntry.{TreeEntry}
use Rattle.model.specs.Lists.{count_from, each}
use Rattle.model.specs.Request.{Search}
use Rattle.model.specs.Path.{Leg, legs, leg_at, no_leg, allowed, Route, extended, hops_from, routes_if, suffixes}
use Rattle.model.specs.Tree.{entries_at, suffixes_at, entry, tree}
use Rattle.laws.proofs.Lists.{map_mem, mem-map, each_mem, mem_each, count_from_mem, mem_count_from}
use Rattle.laws.proofs.PathsAreThePaths.{length_legs}
use Rattle.laws.specs.Reach.{Reach, unreached, arrived, least_from, reach_if, via, best_from, reach_from}
use Rattle.laws.proofs.Reach.{least_from_nil, least_from_one, least_from-reachable, least_from-unreached, least_from_some, least_from_at_most, least_from-extended, least_from_each, best_from_agree}
pub use Rattle.laws.proofs.LeastEntry.{LeastEntry}

-- ---- the entries

-- the reach at an entry
abbrev pub entry_of : ℕ → ℕ → Reach → TreeEntry
entry_of i a x = record { level = i; address = record { 0 = a }; reachable = x.reachable; cost = x.cost }

pub entry-is : (S : Search) (i a : ℕ) → entry S i a ≡ entry_of i a (least_from (suffixes_at S i a))
unfolding entry least_from
entry-is S i a = refl

least-entry : (S : Search) (i a : ℕ) → i < length S.sequence → Memᴰ a (entries_at S i) → LeastEntry S (entry_of i a (least_from (suffixes_at S i a)))
least-entry S i a h m =
    record {
      place = h;
      node = m;
      reachable_by = λ r. least_from-reachable (suffixes_at S i a);
      cost_of_some = least_from_some (suffixes_at S i a);
      cost_at_most = λ r. least_from_at_most (suffixes_at S i a);
      cost-unreachable =
          λ e. ap (λ (rs : List Route). (least_from rs).cost) (least_from-unreached (suffixes_at S i a) e) ∙ ap (λ (x : Reach). x.cost) least_from_nil;
    }

pub tree-least : (S : Search) (e : TreeEntry) → Memᴰ e (tree S) → LeastEntry S e
unfolding tree
tree-least S e m =
    let r = each_mem (λ (i : ℕ). map (entry S i) (entries_at S i)) (count_from 0 (length S.sequence)) m in
    let q = map_mem (entry S r.0) (entries_at S r.0) r.2 in
    let b = count_from_mem 0 (length S.sequence) r.1 in
    subst (LeastEntry S) (sym (q.2 ∙ entry-is S r.0 q.0)) (least-entry S r.0 q.0 (omega arith) q.1)

-- every place's every node has its entry
pub tree_complete : (S : Search) (i a : ℕ) → i < length S.sequence → Memᴰ a (entries_at S i) → Memᴰ (entry S i a) (tree S)
unfolding tree
tree_complete S i a h m =
    mem_each (λ (j : ℕ). map (entry S j) (entries_at S j)) (mem_count_from 0 (length S.sequence) i (omega arith) (omega arith)) (mem-map (entry S i) m)

-- ---- the step

least_from_if : (b : Bool) (rs : List Route) → least_from (routes_if b rs) ≡ reach_if b (least_from rs)
least_from_if true rs = refl
least_from_if false rs = least_from_nil

-- with no leg left one has arrived, where the address is allowed
pub step_end : (S : Search) (i a : ℕ) → reach_from S [] i a ≡ reach_if (allowed S i a) arrived
unfolding suffixes
step_end S i a =
    least_from_if (allowed S i a) (record { addresses = a ∷ []; total = 0 } ∷ [])
    ∙ ap (reach_if (allowed S i a)) (least_from_one (record { addresses = a ∷ []; total = 0 }))

-- with a leg left: where the address is allowed, the best over the usable hops that leave it, each with its cost more than what is least at its head
pub step
    : (S : Search) (leg : Leg) (rest : List Leg) (i a : ℕ)
    → reach_from S (leg ∷ rest) i a
    ≡ reach_if (allowed S i a) (best_from unreached (λ (h : Hop). via h.cost (reach_from S rest (suc i) h.head.0)) (hops_from S leg a))
unfolding suffixes
step S leg rest i a =
    least_from_if (allowed S i a) (each (λ (h : Hop). map (extended a h) (suffixes S rest (suc i) h.head.0)) (hops_from S leg a))
    ∙ ap (reach_if (allowed S i a))
    (least_from_each (λ (h : Hop). map (extended a h) (suffixes S rest (suc i) h.head.0)) (hops_from S leg a)
    ∙ best_from_agree unreached
    (λ (h : Hop). least_from (map (extended a h) (suffixes S rest (suc i) h.head.0)))
    (λ (h : Hop). via h.cost (reach_from S rest (suc i) h.head.0))
    (hops_from S leg a)
    (λ h m. least_from-extended a h (suffixes S rest (suc i) h.head.0)))

-- ---- places of the sequence

-- the legs left at a place: its own, then those of the next place
pub legs_left : (S : Search) (i : ℕ) → i < length S.sequence → drop i (legs S.sequence) ≡ leg_at S i ∷ drop (suc i) (legs S.sequence)
legs_left S i h = drop-cons (legs S.sequence) i no_leg (subst (λ (n : ℕ). i < n) (sym (length_legs S.sequence)) h)

-- at the end none
pub no_legs_left : (S : Search) → drop (length S.sequence) (legs S.sequence) ≡ []
no_legs_left S = ap (λ (n : ℕ). drop n (legs S.sequence)) (sym (length_legs S.sequence)) ∙ drop-length (legs S.sequence)

-- the reach at a place from the reach at the next
pub place-step
    : (S : Search) (i a : ℕ) → i < length S.sequence
    → least_from (suffixes_at S i a)
    ≡ reach_if (allowed S i a) (best_from unreached (λ (h : Hop). via h.cost (least_from (suffixes_at S (suc i) h.head.0))) (hops_from S (leg_at S i) a))
place-step S i a h =
    ap (λ (ls : List Leg). reach_from S ls i a) (legs_left S i h) ∙ step S (leg_at S i) (drop (suc i) (legs S.sequence)) i a

-- at the end only the destination reaches itself, at no cost
pub place_end : (S : Search) (a : ℕ) → least_from (suffixes_at S (length S.sequence) a) ≡ reach_if (allowed S (length S.sequence) a) arrived
place_end S a =
    ap (λ (ls : List Leg). reach_from S ls (length S.sequence) a) (no_legs_left S) ∙ step_end S (length S.sequence) a
