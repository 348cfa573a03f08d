-- Where the hop records stand in file order, the suffixes from an address ascend: each address list is below every later one, so none stands twice.
-- By recursion over the legs left: of one leg and one tail the heads ascend, and a suffix begins with the head it starts from.
use mathlib.Core.Path.{◌≡◌, refl, sym, subst, subst₂, ◌∙◌, ap}
use mathlib.Core.Bool.{Bool, true, false}
use mathlib.Core.Logic.{⊎_elim}
use mathlib.Core.List.Memᴰ
use mathlib.Core.List.{List, [], ◌∷◌, ◌++◌, map, Memᴰ}
use Prim.Native.Nat.{ℕ, suc, ◌<◌}
use Rattle.model.specs.declared.Hop.{Hop}
use Rattle.model.specs.Lists.{below, each}
use Rattle.model.specs.Request.{Search}
use Rattle.model.specs.Path.{Leg, allowed, Route, extended, leaves, hops_from, routes_if, suffixes}
use Rattle.laws.specs.Sorted.{Sorted}
use Rattle.laws.proofs.Lists.{map_mem, sorted_keep, sorted_map, sorted-each}
use Rattle.laws.proofs.Below.{below-head, below-tail, below_irrefl}
use Rattle.laws.proofs.HopKeys.{HopBelow, SortedHops, heads-ascend}
use Rattle.laws.specs.Descent.{ending}
use Rattle.laws.proofs.Suffixes.{addresses_of, hops_from_mem, behind, suffix_begins}

-- address lists, each below every later one
abbrev pub Ascending : List (List ℕ) → Type 0
Ascending ps = Sorted (λ (p q : List ℕ). below p q ≡ true) ps

-- the same of routes, by their addresses
abbrev pub RouteBelow : Route → Route → Type 0
RouteBelow q r = below q.addresses r.addresses ≡ true

abbrev pub AscendingRoutes : List Route → Type 0
AscendingRoutes rs = Sorted RouteBelow rs

pub routes_ascend : (rs : List Route) → AscendingRoutes rs → Ascending (map addresses_of rs)
routes_ascend rs s = sorted_map RouteBelow (λ (p q : List ℕ). below p q ≡ true) addresses_of rs (λ q r m n l. l) s

-- in ascending order none stands twice: neither before it nor after it
pub ascending_once : (ps : List (List ℕ)) (p : List ℕ) (qs : List (List ℕ)) → Ascending (ps ++ p ∷ qs) → (Memᴰ p ps → ⊥) × (Memᴰ p qs → ⊥)
ascending_once [] p qs s = (λ m. Memᴰ.not-nil m, λ m. below_irrefl p (s.0 p m))
ascending_once (x ∷ ps) p qs s =
    let r = ascending_once ps p qs s.1 in (
      λ m.
          ⊎_elim
          (λ (e : p ≡ x). below_irrefl p (subst (λ (y : List ℕ). below y p ≡ true) (sym e) (s.0 p (Memᴰ.append_right ps (Memᴰ.head refl)))))
          r.0
          (Memᴰ.cases_cons m),
      r.1,
    )

-- ---- of one leg and one tail the heads ascend

pub leaving-ascend
    : (S : Search) (leg : Leg) (a : ℕ) (g h : Hop)
    → Memᴰ g (hops_from S leg a)
    → Memᴰ h (hops_from S leg a)
    → HopBelow g h
    → g.head.0 < h.head.0
leaving-ascend S leg a g h m n l =
    let s = hops_from_mem S leg a m in
    let t = hops_from_mem S leg a n in
    heads-ascend g h (s.from ∙ sym t.from) (s.to ∙ sym t.to) (s.tail ∙ sym t.tail) l

-- the hops that leave an address ascend by their heads
pub hops_from_ascend : (S : Search) (leg : Leg) (a : ℕ) → SortedHops S.hops → SortedHops (hops_from S leg a)
unfolding hops_from
hops_from_ascend S leg a s = sorted_keep HopBelow (leaves S leg a) S.hops s

-- ---- the suffixes ascend

-- with a in front, lists keep their order
extended_ascend : (a : ℕ) (h : Hop) (rs : List Route) → AscendingRoutes rs → AscendingRoutes (map (extended a h) rs)
extended_ascend a h rs s =
    sorted_map RouteBelow RouteBelow (extended a h) rs (λ q r m n l. below-tail a a q.addresses r.addresses refl l) s

-- suffixes that begin with a hop are below those that begin with a hop of greater head
behind-ascend
    : (S : Search) (rest : List Leg) (i a : ℕ) (g h : Hop)
    → g.head.0 < h.head.0
    → (q r : Route)
    → Memᴰ q (behind S rest i a g)
    → Memᴰ r (behind S rest i a h)
    → RouteBelow q r
behind-ascend S rest i a g h l q r m n =
    let c = map_mem (extended a g) (suffixes S rest (suc i) g.head.0) m in
    let d = map_mem (extended a h) (suffixes S rest (suc i) h.head.0) n in
    let x = suffix_begins S rest (suc i) g.head.0 c.0 c.1 in
    let y = suffix_begins S rest (suc i) h.head.0 d.0 d.1 in
    subst₂ (λ (v w : List ℕ). below v w ≡ true)
    (sym (ap addresses_of c.2 ∙ ap (λ (p : List ℕ). a ∷ p) x.1))
    (sym (ap addresses_of d.2 ∙ ap (λ (p : List ℕ). a ∷ p) y.1))
    (below-tail a a (g.head.0 ∷ x.0) (h.head.0 ∷ y.0) refl (below-head g.head.0 h.head.0 x.0 y.0 l))

routes_if_ascend : (b : Bool) (rs : List Route) → AscendingRoutes rs → AscendingRoutes (routes_if b rs)
routes_if_ascend true rs s = s
routes_if_ascend false rs s = tt

pub suffix_routes_ascend : (S : Search) → SortedHops S.hops → (rest : List Leg) (i a : ℕ) → AscendingRoutes (suffixes S rest i a)
unfolding suffixes
suffix_routes_ascend S s [] i a = routes_if_ascend (allowed S i a) (ending a ∷ []) (λ r m. absurd (Memᴰ.not-nil m), tt)
suffix_routes_ascend S s (leg ∷ rest) i a =
    routes_if_ascend (allowed S i a) (each (behind S rest i a) (hops_from S leg a))
    (sorted-each HopBelow RouteBelow (behind S rest i a) (hops_from S leg a)
    (λ h m. extended_ascend a h (suffixes S rest (suc i) h.head.0) (suffix_routes_ascend S s rest (suc i) h.head.0))
    (λ g h m n l q r. behind-ascend S rest i a g h (leaving-ascend S leg a g h m n l) q r)
    (hops_from_ascend S leg a s))
