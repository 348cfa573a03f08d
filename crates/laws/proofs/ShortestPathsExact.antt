-- The shortest paths are exactly the admissible ones that no admissible one undercuts, each once and ascending: what `keep` says of its elements, and that it
-- leaves the order as it is.
use mathlib.Core.Path.{◌≡◌, subst}
use mathlib.Core.Logic.{◌↔◌}
use mathlib.Core.Bool.{Bool, true}
use mathlib.Core.List.{List, map, Memᴰ}
use Prim.Native.Nat.{ℕ, ◌≤◌, ◌<◌}
use native.Mathlib.Nat.{le_antisymm}
use lib.ListN.{length, get_or}
use lib.Dec.{leb}
use borrow.Author.Tests.{leb-true, le-leb}
use Rattle.model.specs.Lists.{keep, all, below}
use Rattle.model.specs.Request.{Search}
use Rattle.model.specs.Path.{Route, keeps_bound, paths, admissible, cheapest, shortest_paths}
use Rattle.model.specs.Series.{no_route}
use Rattle.laws.specs.Sorted.{Sorted}
use Rattle.laws.proofs.Lists.{keep_mem, mem_keep, all_mem, mem_all, sorted_keep, sorted_map}
use Rattle.laws.proofs.Below.{below_irrefl}
use Rattle.laws.proofs.Ascending.{sorted_by, sorted_get_or}

-- ---- what is said of a list of paths

-- the addresses of each, compared as unsigned numbers from the left, are below those of every later one: ascending, and each once
abbrev pub Ascending : List Route → Type 0
Ascending rs = Sorted (λ (p q : List ℕ). below p q ≡ true) (map (λ (r : Route). r.addresses) rs)

-- each has n addresses
abbrev pub EachLong : ℕ → List Route → Type 0
EachLong n rs = (r : Route) → Memᴰ r rs → length r.addresses ≡ n

-- the order, said of the paths
abbrev pub Below : Route → Route → Type 0
Below p q = below p.addresses q.addresses ≡ true

pub ascending_routes : (rs : List Route) → Ascending rs → Sorted Below rs
ascending_routes rs s = sorted_by (λ (p q : List ℕ). below p q ≡ true) (λ (r : Route). r.addresses) rs s

pub ascending-keep : (t : Route → Bool) (rs : List Route) → Ascending rs → Ascending (keep t rs)
ascending-keep t rs s =
    sorted_map Below (λ (p q : List ℕ). below p q ≡ true) (λ (r : Route). r.addresses) (keep t rs) (λ p q m n h. h)
    (sorted_keep Below t rs (ascending_routes rs s))

-- no two places hold the same addresses
pub ascending_once
    : (rs : List Route) → Ascending rs
    → (i j : ℕ) → i < j → j < length rs → (get_or rs i no_route).addresses ≡ (get_or rs j no_route).addresses → ⊥
ascending_once rs s i j h k e =
    let q = get_or rs j no_route in
    below_irrefl q.addresses
    (subst (λ (a : List ℕ). below a q.addresses ≡ true) e (sorted_get_or Below rs i j no_route h k (ascending_routes rs s)))

-- ---- from the admissible paths to the shortest ones

cheapest_mem
    : (rs : List Route) (r : Route)
    → Memᴰ r (cheapest rs) ↔ (Memᴰ r rs × ((q : Route) → Memᴰ q rs → r.total ≤ q.total))
unfolding cheapest
cheapest_mem rs r =
    let at_most : Route → Route → Bool = λ (p q : Route). leb p.total q.total in
    let test : Route → Bool = λ (p : Route). all (at_most p) rs in (
      λ m. let k = keep_mem test rs m in (k.0, λ q n. leb-true r.total q.total (all_mem (at_most r) k.1 n)),
      λ c. mem_keep test c.0 (mem_all (at_most r) rs (λ q n. le-leb r.total q.total (c.1 q n))),
    )

-- every shortest path is a path
pub shortest_path : (S : Search) (r : Route) → Memᴰ r (shortest_paths S) → Memᴰ r (paths S)
unfolding shortest_paths admissible
shortest_path S r m = (keep_mem (λ (p : Route). keeps_bound S.limits p.total) (paths S) ((cheapest_mem (admissible S) r).0 m).0).0

pub shortest_long : (S : Search) (n : ℕ) → EachLong n (paths S) → EachLong n (shortest_paths S)
shortest_long S n h r m = h r (shortest_path S r m)

pub shortest_ascending : (S : Search) → Ascending (paths S) → Ascending (shortest_paths S)
unfolding shortest_paths cheapest admissible
shortest_ascending S s =
    ascending-keep (λ (p : Route). all (λ (q : Route). leb p.total q.total) (admissible S)) (admissible S)
    (ascending-keep (λ (p : Route). keeps_bound S.limits p.total) (paths S) s)

-- ---- the law

pub record ShortestPaths (S : Search) : Type 0 where
  -- listed exactly when admissible and every admissible path costs at least as much
  pub exactly
      : (r : Route)
      → Memᴰ r (shortest_paths S) ↔ (Memᴰ r (admissible S) × ((q : Route) → Memᴰ q (admissible S) → r.total ≤ q.total))
  -- ascending
  pub ascending : Ascending (shortest_paths S)
  -- each once: no two places hold the same addresses
  pub once
      : (i j : ℕ) → i < j → j < length (shortest_paths S)
      → (get_or (shortest_paths S) i no_route).addresses ≡ (get_or (shortest_paths S) j no_route).addresses
      → ⊥
  -- all have one and the same total
  pub one_total : (p q : Route) → Memᴰ p (shortest_paths S) → Memᴰ q (shortest_paths S) → p.total ≡ q.total

pub shortest_paths_exact : (S : Search) → Ascending (paths S) → ShortestPaths S
unfolding shortest_paths
shortest_paths_exact S s =
    record {
      exactly = cheapest_mem (admissible S);
      ascending = shortest_ascending S s;
      once = ascending_once (shortest_paths S) (shortest_ascending S s);
      one_total = λ p q m n.
          let c = (cheapest_mem (admissible S) p).0 m in
          let d = (cheapest_mem (admissible S) q).0 n in
          le_antisymm (c.1 q d.0) (d.1 p c.0);
    }
