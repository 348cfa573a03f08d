-- The law `paths_are_the_paths`: `paths` lists exactly the lists of addresses that are paths, each once and in ascending order, each with the sum of its hops' costs
-- as its total; and so for the admissible ones. From what holds of the suffixes, of which a path is the one from place 0 on.
use mathlib.Core.Path.{◌≡◌, refl, sym, subst, ◌∙◌, ap}
use mathlib.Core.Logic.{◌↔◌, ⊎_elim}
use mathlib.Core.Bool.{true}
use mathlib.Core.List.Memᴰ
use mathlib.Core.List.{List, [], ◌∷◌, ◌++◌, map, Memᴰ}
use Prim.Native.Nat.{ℕ, suc, ◌+◌, ◌-◌, ◌*◌, ◌≤◌, ◌<◌}
use native.Mathlib.Nat.{eq-or-lt_of_le}
use native.Mathlib.Omega.{arith}
use lib.ListN.{length, get_or, drop, length-drop}
use lib.Seq.{get_or-drop}
use Rattle.model.specs.declared.Hop.{Hop}
use Rattle.model.specs.Profile.{cost_limit}
use Rattle.model.specs.Sequence.{Stop}
use Rattle.model.specs.Request.{Search}
use Rattle.model.specs.Path.{Leg, legs, no_leg, Step, IsWay, IsPath, total, keeps_bound, Admissible, allowed, Route, paths, admissible, total_limit}
use Rattle.laws.proofs.Lists.{keep_mem, mem_keep, map_mem, mem-map}
use Rattle.laws.proofs.Allowed.{allowed-node, allowed-domain, allowed-pin, allowed-destination, domain-allowed, destination-allowed}
use Rattle.laws.proofs.HopKeys.{SortedHops}
use Rattle.laws.proofs.Suffixes.{addresses_of, IsSuffix, suffixes_exact}
use Rattle.laws.proofs.SuffixesAscend.{Ascending, ascending_once, AscendingRoutes, routes_ascend, suffix_routes_ascend}
use Rattle.laws.proofs.SuffixTotals.{suffix-total, suffix-total-bound}

-- as many legs as domains
pub length_legs : (sequence : List Stop) → length (legs sequence) ≡ length sequence
unfolding legs
length_legs [] = refl
length_legs (d ∷ []) = refl
length_legs (d ∷ e ∷ rest) = ap suc (length_legs (e ∷ rest))

-- ---- a way is a suffix over the legs left

module _ (S : Search) (i a : ℕ) (p : List ℕ) (within : i ≤ length S.sequence) where
  left : i + length (drop i (legs S.sequence)) ≡ length S.sequence
  left = let n = length_legs S.sequence in let d = length-drop i (legs S.sequence) in omega arith

  pub way_suffix : IsWay S i a p → IsSuffix S (drop i (legs S.sequence)) i a p
  way_suffix x =
      record {
        long = let l = x.long in let n = left in omega arith;
        start = x.start;
        steps =
            λ j l.
            subst (λ (leg : Leg). Step S leg (get_or p j 0) (get_or p (suc j) 0)) (sym (get_or-drop i (legs S.sequence) j no_leg))
            (x.steps j (let n = left in omega arith));
        places = λ j l. place j (let n = left in omega arith);
      }
    where
      place : (j : ℕ) → i + j ≤ length S.sequence → allowed S (i + j) (get_or p j 0) ≡ true
      place j l =
          ⊎_elim
          (λ (e : i + j ≡ length S.sequence).
          let k : j ≡ length S.sequence - i = omega arith in
          destination-allowed S (i + j) (get_or p j 0) (omega arith) (x.nodes j l) (ap (λ (m : ℕ). get_or p m 0) k ∙ x.destination))
          (λ (k : i + j < length S.sequence). domain-allowed S (i + j) (get_or p j 0) k (x.nodes j l) (x.domains j k) (x.pins j k))
          (eq-or-lt_of_le l)

  pub suffix_way : IsSuffix S (drop i (legs S.sequence)) i a p → IsWay S i a p
  suffix_way x =
      record {
        long = let l = x.long in let n = left in omega arith;
        start = x.start;
        destination = allowed-destination S (i + end) (get_or p end 0) (omega arith) (place end (omega arith));
        steps =
            λ j l.
            subst (λ (leg : Leg). Step S leg (get_or p j 0) (get_or p (suc j) 0)) (get_or-drop i (legs S.sequence) j no_leg)
            (x.steps j (let n = left in omega arith));
        domains = λ j l. allowed-domain S (i + j) (get_or p j 0) l (place j (omega arith));
        nodes = λ j l. allowed-node S (i + j) (get_or p j 0) (place j l);
        pins = λ j l. allowed-pin S (i + j) (get_or p j 0) l (place j (omega arith));
      }
    where
      end : ℕ
      end = length S.sequence - i

      place : (j : ℕ) → i + j ≤ length S.sequence → allowed S (i + j) (get_or p j 0) ≡ true
      place j l = x.places j (let n = left in omega arith)

-- ---- the paths

-- a list of addresses is among the paths exactly when it is a path
pub paths_exact : (S : Search) (p : List ℕ) → Memᴰ p (map addresses_of (paths S)) ↔ IsPath S p
unfolding paths
paths_exact S p =
    let e = suffixes_exact S (legs S.sequence) 0 S.source p in
    (λ m. suffix_way S 0 S.source p (omega arith) (e.0 m), λ x. e.1 (way_suffix S 0 S.source p (omega arith) x))

pub path_routes_ascend : (S : Search) → SortedHops S.hops → AscendingRoutes (paths S)
unfolding paths
path_routes_ascend S s = suffix_routes_ascend S s (legs S.sequence) 0 S.source

-- the paths stand in ascending order, and so each once
pub paths_ascend : (S : Search) → SortedHops S.hops → Ascending (map addresses_of (paths S))
paths_ascend S s = routes_ascend (paths S) (path_routes_ascend S s)

-- a path's total is the sum of the costs of its hops
pub paths_total : (S : Search) → SortedHops S.hops → (r : Route) → Memᴰ r (paths S) → r.total ≡ total S r.addresses
unfolding paths
paths_total S s r m = suffix-total S s (legs S.sequence) 0 S.source r m

-- and at most the largest cost times the number of domains
pub paths-total-bound
    : (S : Search) (most : ℕ)
    → ((h : Hop) → Memᴰ h S.hops → h.cost ≤ most)
    → (r : Route)
    → Memᴰ r (paths S)
    → r.total ≤ length S.sequence * most
unfolding paths
paths-total-bound S most c r m =
    subst (λ (k : ℕ). r.total ≤ k * most) (length_legs S.sequence) (suffix-total-bound S most c (legs S.sequence) 0 S.source r m)

-- of at most 16 domains and hops of costs up to 16,777,215: at most 268,435,440
pub paths-total-limit
    : (S : Search)
    → length S.sequence ≤ 16
    → ((h : Hop) → Memᴰ h S.hops → h.cost ≤ cost_limit)
    → (r : Route)
    → Memᴰ r (paths S)
    → r.total ≤ total_limit
paths-total-limit S l c r m =
    let b = paths-total-bound S cost_limit c r m in
    omega arith

-- ---- the law

pub record ThePaths (S : Search) : Type 0 where
  -- a list of addresses is among the paths exactly when it is a path
  pub exact : (p : List ℕ) → Memᴰ p (map addresses_of (paths S)) ↔ IsPath S p
  -- each is below every later one, compared as unsigned numbers from the left
  pub ascending : Ascending (map addresses_of (paths S))
  -- each is there once
  pub once : (p : List ℕ) (before after : List (List ℕ)) → map addresses_of (paths S) ≡ before ++ p ∷ after → (Memᴰ p before → ⊥) × (Memᴰ p after → ⊥)
  -- its total is the sum of the costs of its hops, and at most 268,435,440
  pub totals : (r : Route) → Memᴰ r (paths S) → r.total ≡ total S r.addresses
  pub limit : (r : Route) → Memᴰ r (paths S) → r.total ≤ total_limit

pub paths_are_the_paths
    : (S : Search)
    → SortedHops S.hops
    → length S.sequence ≤ 16
    → ((h : Hop) → Memᴰ h S.hops → h.cost ≤ cost_limit)
    → ThePaths S
paths_are_the_paths S s l c =
    record {
      exact = paths_exact S;
      ascending = paths_ascend S s;
      once = λ p before after e. ascending_once before p after (subst Ascending e (paths_ascend S s));
      totals = paths_total S s;
      limit = paths-total-limit S l c;
    }

-- ---- the admissible paths

pub admissible_exact : (S : Search) → SortedHops S.hops → (p : List ℕ) → Memᴰ p (map addresses_of (admissible S)) ↔ Admissible S p
unfolding admissible
admissible_exact S s p = (
  λ m.
      let r = map_mem addresses_of (admissible S) m in
      let k = keep_mem (λ (q : Route). keeps_bound S.limits q.total) (paths S) r.1 in
      record {
        path = (paths_exact S p).0 (Memᴰ.cast r.2 (mem-map addresses_of k.0));
        bound =
            subst (λ (c : ℕ). keeps_bound S.limits c ≡ true) (paths_total S s r.0 k.0 ∙ ap (total S) (sym r.2)) k.1;
      },
  λ x.
      let r = map_mem addresses_of (paths S) ((paths_exact S p).1 x.path) in
      Memᴰ.cast r.2
      (mem-map addresses_of
      (mem_keep (λ (q : Route). keeps_bound S.limits q.total) r.1
      (subst (λ (c : ℕ). keeps_bound S.limits c ≡ true) (ap (total S) r.2 ∙ sym (paths_total S s r.0 r.1)) x.bound))),
)
