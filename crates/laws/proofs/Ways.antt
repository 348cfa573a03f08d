-- The tree in document 01's words: which entries it has, in which order, and what each says of the ways from it. A way is one of the suffixes that the definition
-- enumerates, so what `tree-least` says of these is said of ways.
use Prim.Native.Nat.{ℕ, zero, suc, ◌≤◌, ◌<◌}
use native.Mathlib.Omega.{arith}
use mathlib.Core.Path.{◌≡◌, refl, sym, ap, subst, ◌∙◌}
use mathlib.Core.Logic.{◌↔◌, ◌⊎◌, inl, inr}
use mathlib.Core.Bool.{true, false}
use mathlib.Core.List.Memᴰ
use mathlib.Core.List.{List, map, Memᴰ}
use lib.ListN.{length, drop}
use Rattle.model.specs.declared.Hop.{Hop}
use Rattle.model.specs.declared.TreeEntry.{TreeEntry}
use Rattle.model.specs.Lists.{count_from}
use Rattle.model.specs.Profile.{between}
use Rattle.model.specs.Request.{Search}
use Rattle.model.specs.Path.{legs, leg_at, IsWay, total_from, Route}
use Rattle.model.specs.Tree.{entries_at, suffixes_at, entry, tree}
use Rattle.laws.specs.Sorted.{Sorted}
use Rattle.laws.proofs.Lists.{map_mem, mem-map, sorted_map, sorted-each}
use Rattle.laws.proofs.ProfileLists.{sorted_count_from}
use Rattle.laws.proofs.HopKeys.{SortedHops}
use Rattle.laws.proofs.EntryNodes.{entry_nodes-ascending, entry_nodes_mem, mem_entry_nodes}
use Rattle.laws.proofs.Suffixes.{addresses_of, suffixes_exact}
use Rattle.laws.proofs.SuffixTotals.{suffix-total}
use Rattle.laws.proofs.PathsAreThePaths.{way_suffix, suffix_way}
use Rattle.laws.proofs.TreeLeast.{LeastEntry, tree-least, tree_complete}

-- ---- the ways from an address

pub ways_exact : (S : Search) (i a : ℕ) (p : List ℕ) → i ≤ length S.sequence → Memᴰ p (map addresses_of (suffixes_at S i a)) ↔ IsWay S i a p
ways_exact S i a p h =
    let e = suffixes_exact S (drop i (legs S.sequence)) i a p in
    (λ m. suffix_way S i a p h (e.0 m), λ x. e.1 (way_suffix S i a p h x))

-- ---- what an entry says

pub record EntryMeans (S : Search) (e : TreeEntry) : Type 0 where
  -- reachable exactly when a way leads from it to the destination
  pub reachable : (e.reachable ≡ true) ↔ ((p : List ℕ) × IsWay S e.level e.address.0 p)
  -- its cost is at most every way's total, and is that of some way
  pub at_most : (p : List ℕ) → IsWay S e.level e.address.0 p → e.cost ≤ total_from S e.level p
  pub of_some : e.reachable ≡ true → (p : List ℕ) × IsWay S e.level e.address.0 p × (total_from S e.level p ≡ e.cost)
  -- 0 where it is unreachable
  pub unreachable : e.reachable ≡ false → e.cost ≡ 0

pub entry-means : (S : Search) → SortedHops S.hops → (e : TreeEntry) → Memᴰ e (tree S) → EntryMeans S e
entry-means S sorted e m =
    record {
      reachable = (
        λ t. let w = some t in (w.0, w.1),
        λ x. let r = route x.0 x.1 in l.reachable_by r.0 r.1,
      );
      at_most = λ p x.
          let r = route p x in
          subst (λ (n : ℕ). e.cost ≤ n) (totals r.0 r.1 ∙ ap (total_from S e.level) (sym r.2)) (l.cost_at_most r.0 r.1);
      of_some = some;
      unreachable = l.cost-unreachable;
    }
  where
    l : LeastEntry S e
    l = tree-least S e m

    within : e.level ≤ length S.sequence
    within = let h = l.place in omega arith

    -- a way is the addresses of a suffix
    route : (p : List ℕ) → IsWay S e.level e.address.0 p → (r : Route) × Memᴰ r (suffixes_at S e.level e.address.0) × (p ≡ r.addresses)
    route p x = map_mem addresses_of (suffixes_at S e.level e.address.0) ((ways_exact S e.level e.address.0 p within).1 x)

    totals : (r : Route) → Memᴰ r (suffixes_at S e.level e.address.0) → r.total ≡ total_from S e.level r.addresses
    totals r n = suffix-total S sorted (drop e.level (legs S.sequence)) e.level e.address.0 r n

    some : e.reachable ≡ true → (p : List ℕ) × IsWay S e.level e.address.0 p × (total_from S e.level p ≡ e.cost)
    some t =
        let r = l.cost_of_some t in
        (r.0.addresses, (ways_exact S e.level e.address.0 r.0.addresses within).0 (mem-map addresses_of r.1), sym (totals r.0 r.1) ∙ r.2)

-- ---- which entries there are

-- an address is an entry at place i: the source for D0, then for each later Di the head of a hop record from Di-1 to Di
abbrev pub IsEntry : Search → ℕ → ℕ → Type 0
IsEntry S zero a = a ≡ S.source
IsEntry S (suc i) a = (h : Hop) × Memᴰ h S.hops × (between (leg_at S i).from (leg_at S i).to h ≡ true) × (a ≡ h.head.0)

entry_at : (S : Search) (i a : ℕ) → Memᴰ a (entries_at S i) ↔ IsEntry S i a
unfolding entries_at
entry_at S zero a = (λ m. Memᴰ.eq_of_singleton m, λ e. Memᴰ.head e)
entry_at S (suc i) a = (
  λ m. entry_nodes_mem (leg_at S i).from (leg_at S i).to S.hops m,
  λ h. Memᴰ.cast h.3 (mem_entry_nodes (leg_at S i).from (leg_at S i).to S.hops h.1 h.2),
)

-- entry d stands before entry e: at an earlier place, or at the same with a smaller address
abbrev pub Before : TreeEntry → TreeEntry → Type 0
Before d e = (d.level < e.level) ⊎ ((d.level ≡ e.level) × (d.address.0 < e.address.0))

pub record TreeHas (S : Search) (entries : List TreeEntry) : Type 0 where
  -- an entry for each entry node of each place, and no other
  pub exactly
      : (i a : ℕ)
      → ((e : TreeEntry) × Memᴰ e entries × (e.level ≡ i) × (e.address.0 ≡ a)) ↔ ((i < length S.sequence) × IsEntry S i a)
  -- place by place, and ascending at each: so each once
  pub ordered : Sorted Before entries

at_level : (S : Search) (i a : ℕ) → ((entry S i a).level ≡ i) × ((entry S i a).address.0 ≡ a)
unfolding entry
at_level S i a = (refl, refl)

ascends : (S : Search) (i : ℕ) → Sorted ◌<◌ (entries_at S i)
unfolding entries_at
ascends S zero = (λ y m. absurd (Memᴰ.not-nil m), tt)
ascends S (suc i) = entry_nodes-ascending (leg_at S i).from (leg_at S i).to S.hops

in_order : (S : Search) → Sorted Before (tree S)
unfolding tree entry
in_order S =
    sorted-each ◌<◌ Before (λ (i : ℕ). map (entry S i) (entries_at S i)) (count_from 0 (length S.sequence))
    (λ i m. sorted_map ◌<◌ Before (entry S i) (entries_at S i) (λ a b n k h. inr (refl, h)) (ascends S i))
    (λ i j m n h d e p q.
    let x = map_mem (entry S i) (entries_at S i) p in
    let y = map_mem (entry S j) (entries_at S j) q in
    inl (subst (λ (k : ℕ). k < e.level) (sym (ap (λ (z : TreeEntry). z.level) x.2)) (subst (λ (k : ℕ). i < k) (sym (ap (λ (z : TreeEntry). z.level) y.2)) h)))
    (sorted_count_from 0 (length S.sequence))

pub tree_has : (S : Search) → TreeHas S (tree S)
tree_has S =
    record {
      exactly = λ i a. (
        λ x.
            let l = tree-least S x.0 x.1 in (
              subst (λ (k : ℕ). k < length S.sequence) x.2 l.place,
              subst (λ (k : ℕ). IsEntry S k a) x.2 (subst (λ (b : ℕ). IsEntry S x.0.level b) x.3 ((entry_at S x.0.level x.0.address.0).0 l.node)),
            ),
        λ x.
            let n = at_level S i a in
            (entry S i a, tree_complete S i a x.0 ((entry_at S i a).1 x.1), n.0, n.1),
      );
      ordered = in_order S;
    }
