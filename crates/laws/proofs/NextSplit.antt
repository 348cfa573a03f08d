-- The least of the cheapest suffixes above a given list of addresses, a path or not: found by recursion along the given list, deeper behind the hop that the
-- list names, or else behind the first hop of greater head. The hops on a shortest way ascend by their heads, since the hop records stand in order.
use mathlib.Core.Path.{◌≡◌, refl, sym, ◌∙◌, ap}
use mathlib.Core.Logic.{⊎_elim}
use mathlib.Core.Bool.{Bool, true, false, ◌&&◌, ◌||◌}
use mathlib.Core.List.{List, [], ◌∷◌, map, head?, Memᴰ}
use mathlib.Core.Option
use mathlib.Core.Option.{Option, some}
use Prim.Native.Nat.{ℕ, suc, ◌<◌}
use native.Mathlib.Nat.{eq-or-lt_of_le}
use native.Mathlib.Omega.{arith}
use lib.Dec.{eqb, ltb}
use borrow.Author.Tests.{eqb-true, eq-eqb, ne_eqb, ltb-true, ltb-false, le-ltb}
use Rattle.model.specs.declared.Hop.{Hop}
use Rattle.model.specs.Lists.{below, keep, each}
use Rattle.model.specs.Request.{Search}
use Rattle.model.specs.Path.{Leg, legs, keeps_bound, Route, extended, hops_from, routes_if, suffixes, paths, cheapest, shortest_paths}
use Rattle.model.specs.Calls.{greater_than}
use Rattle.laws.proofs.Tests.{decide}
use Rattle.laws.specs.Sorted.{Sorted}
use Rattle.laws.proofs.Lists.{keep_mem, keep_agree, keep_all, keep_none, sorted_keep}
use Rattle.laws.proofs.Below.{below-head}
use Rattle.laws.proofs.HopKeys.{HopBelow, SortedHops}
use Rattle.laws.proofs.Suffixes.{suffixes-end, suffixes_step, suffix_begins}
use Rattle.laws.proofs.SuffixesAscend.{leaving-ascend, hops_from_ascend}
use Rattle.laws.proofs.Picks.{keep-map, keep_each}
use Rattle.laws.specs.Descent.{option_if, or_else, on_shortest, shortest_hops, behind_first, first_from, next_after, next_by, next_from}
use Rattle.laws.proofs.Firsts.{through_agree, head?-mem, head?-map, first_from_lem}
use Rattle.laws.specs.Reach.{reach_from}
use Rattle.laws.proofs.Cheapest.{cheapest_mem, bound_once}
use Rattle.laws.proofs.Split.{cheapest_behind, cheapest-split-reached, shortest_hops-mem, behind-some, first_split, first-behind}

-- the same number in front changes nothing
below-same : (x : ℕ) (xs ys : List ℕ) → below (x ∷ xs) (x ∷ ys) ≡ below xs ys
unfolding below
below-same x xs ys = λ i. le-ltb x x (omega arith) i || (eq-eqb x x refl i && below xs ys)

not_below-head : (x y : ℕ) (xs ys : List ℕ) → y < x → below (x ∷ xs) (y ∷ ys) ≡ false
unfolding below
not_below-head x y xs ys l = λ i. le-ltb x y (omega arith) i || (ne_eqb x y (λ e. omega arith) i && below xs ys)

-- ---- what stands above a list that begins with a smaller, a greater, the same address

-- the addresses of each of the cheapest suffixes from a begin with a
begins : (S : Search) (ls : List Leg) (i a : ℕ) {r : Route} → Memᴰ r (cheapest (suffixes S ls i a)) → (more : List ℕ) × (r.addresses ≡ a ∷ more)
begins S ls i a {r} m = suffix_begins S ls i a r (cheapest_mem (suffixes S ls i a) m).0

above-smaller
    : (S : Search) (ls : List Leg) (i a x : ℕ) (g : List ℕ) → x < a → greater_than (x ∷ g) (cheapest (suffixes S ls i a)) ≡ cheapest (suffixes S ls i a)
unfolding greater_than
above-smaller S ls i a x g l =
    keep_all (λ (p : Route). below (x ∷ g) p.addresses) (cheapest (suffixes S ls i a))
    (λ r m. let b = begins S ls i a m in ap (below (x ∷ g)) b.1 ∙ below-head x a g b.0 l)

above_greater : (S : Search) (ls : List Leg) (i a x : ℕ) (g : List ℕ) → a < x → greater_than (x ∷ g) (cheapest (suffixes S ls i a)) ≡ []
unfolding greater_than
above_greater S ls i a x g l =
    keep_none (λ (p : Route). below (x ∷ g) p.addresses) (cheapest (suffixes S ls i a))
    (λ r m. let b = begins S ls i a m in ap (below (x ∷ g)) b.1 ∙ not_below-head x a g b.0 l)

-- behind a hop: what stands above the rest of the list
above-behind
    : (S : Search) (rest : List Leg) (i a : ℕ) (h : Hop) (g : List ℕ)
    → greater_than (a ∷ g) (cheapest_behind S rest i a h) ≡ map (extended a h) (greater_than g (cheapest (suffixes S rest (suc i) h.head.0)))
unfolding greater_than
above-behind S rest i a h g =
    let rs = cheapest (suffixes S rest (suc i) h.head.0) in
    keep-map (λ (p : Route). below (a ∷ g) p.addresses) (extended a h) rs
    ∙ ap (map (extended a h))
    (keep_agree (λ (p : Route). below (a ∷ g) (a ∷ p.addresses)) (λ (p : Route). below g p.addresses) rs (λ p m. below-same a g p.addresses))

-- with no leg left nothing stands behind a
above-end : (S : Search) (i a : ℕ) (g : List ℕ) → greater_than (a ∷ g) (cheapest (suffixes S [] i a)) ≡ []
unfolding greater_than below
above-end S i a g =
    keep_none (λ (p : Route). below (a ∷ g) p.addresses) (cheapest (suffixes S [] i a))
    (λ r m.
    ap (λ (q : Route). below (a ∷ g) q.addresses) (suffixes-end S i a (cheapest_mem (suffixes S [] i a) m).0).1
    ∙ below-same a g [])

-- with a leg left something does
above-alone
    : (S : Search) (leg : Leg) (rest : List Leg) (i a : ℕ)
    → greater_than (a ∷ []) (cheapest (suffixes S (leg ∷ rest) i a)) ≡ cheapest (suffixes S (leg ∷ rest) i a)
unfolding greater_than below
above-alone S leg rest i a =
    keep_all (λ (p : Route). below (a ∷ []) p.addresses) (cheapest (suffixes S (leg ∷ rest) i a))
    (λ r m.
    let x = suffixes_step S leg rest i a (cheapest_mem (suffixes S (leg ∷ rest) i a) m).0 in
    let b = suffix_begins S rest (suc i) x.hop.head.0 x.further x.suffix in
    ap (λ (q : Route). below (a ∷ []) q.addresses) x.made
    ∙ below-same a [] x.further.addresses
    ∙ ap (below []) b.1)

-- above the empty list is each
above-nothing : (S : Search) (ls : List Leg) (i a : ℕ) → greater_than [] (cheapest (suffixes S ls i a)) ≡ cheapest (suffixes S ls i a)
unfolding greater_than below
above-nothing S ls i a =
    keep_all (λ (p : Route). below [] p.addresses) (cheapest (suffixes S ls i a)) (λ r m. ap (below []) (begins S ls i a m).1)

above_if : (b : Bool) (g : List ℕ) (rs : List Route) → head? (greater_than g (routes_if b rs)) ≡ option_if b (head? (greater_than g rs))
unfolding greater_than keep
above_if true g rs = refl
above_if false g rs = refl

-- ---- the hops on a shortest way ascend by their heads

sorted_by
    : {A : Type 0} (R Q : A → A → Type 0) (xs : List A) → ((x y : A) → Memᴰ x xs → Memᴰ y xs → R x y → Q x y) → Sorted R xs → Sorted Q xs
sorted_by R Q [] h s = tt
sorted_by R Q (x ∷ xs) h s = (
  λ y m. h x y (Memᴰ.head refl) (Memᴰ.tail m) (s.0 y m),
  sorted_by R Q xs (λ y z m n. h y z (Memᴰ.tail m) (Memᴰ.tail n)) s.1,
)

pub shortest_hops-ascend
    : (S : Search) (leg : Leg) (rest : List Leg) (i a : ℕ)
    → SortedHops S.hops
    → Sorted (λ (g h : Hop). g.head.0 < h.head.0) (shortest_hops S leg rest i a)
unfolding shortest_hops
shortest_hops-ascend S leg rest i a s =
    sorted_by HopBelow (λ (g h : Hop). g.head.0 < h.head.0)
    (shortest_hops S leg rest i a)
    (λ g h m n l. leaving-ascend S leg a g h (shortest_hops-mem S leg rest i a m).leaving (shortest_hops-mem S leg rest i a n).leaving l)
    (sorted_keep HopBelow
    (λ (h : Hop). on_shortest (reach_from S (leg ∷ rest) i a) h (reach_from S rest (suc i) h.head.0))
    (hops_from S leg a)
    (hops_from_ascend S leg a s))

-- ---- the recursion finds it

next-through
    : (S : Search) → SortedHops S.hops → (leg : Leg) (rest : List Leg) (i a y : ℕ) (g : List ℕ)
    → ((h : Hop) → head? (greater_than (h.head.0 ∷ g) (cheapest (suffixes S rest (suc i) h.head.0))) ≡ next_after S rest (suc i) h.head.0 g)
    → head? (greater_than (a ∷ y ∷ g) (each (cheapest_behind S rest i a) (shortest_hops S leg rest i a)))
    ≡ or_else
    (behind_first a (λ (h : Hop). next_after S rest (suc i) h.head.0 g) (keep (λ (h : Hop). eqb h.head.0 y) (shortest_hops S leg rest i a)))
    (behind_first a (λ (h : Hop). first_from S rest (suc i) h.head.0) (keep (λ (h : Hop). ltb y h.head.0) (shortest_hops S leg rest i a)))
unfolding greater_than
next-through S s leg rest i a y g deeper =
    ap head? (keep_each (λ (p : Route). below (a ∷ y ∷ g) p.addresses) (cheapest_behind S rest i a) hs)
    ∙ first_from_lem (λ (h : Hop). h.head.0) above (cheapest_behind S rest i a) y hs
    (shortest_hops-ascend S leg rest i a s)
    (λ h m l. above-behind S rest i a h (y ∷ g) ∙ ap (map (extended a h)) (above_greater S rest (suc i) h.head.0 y g l))
    (λ h m l. above-behind S rest i a h (y ∷ g) ∙ ap (map (extended a h)) (above-smaller S rest (suc i) h.head.0 y g l))
    (behind-some S leg rest i a)
    ∙ (λ j.
    or_else
    (through_agree
    (λ (h : Hop). head? (above h))
    (λ (h : Hop). Option.map (extended a h) (next_after S rest (suc i) h.head.0 g))
    (keep named hs)
    at_named
    j)
    (through_agree
    (λ (h : Hop). head? (cheapest_behind S rest i a h))
    (λ (h : Hop). Option.map (extended a h) (first_from S rest (suc i) h.head.0))
    (keep (λ (h : Hop). ltb y h.head.0) hs)
    (λ h m. first-behind S rest i a h)
    j))
  where
    hs : List Hop
    hs = shortest_hops S leg rest i a

    above : Hop → List Route
    above h = greater_than (a ∷ y ∷ g) (cheapest_behind S rest i a h)

    named : Hop → Bool
    named h = eqb h.head.0 y

    at_named : (h : Hop) → Memᴰ h (keep named hs) → head? (above h) ≡ Option.map (extended a h) (next_after S rest (suc i) h.head.0 g)
    at_named h m =
        let e = eqb-true h.head.0 y (keep_mem named hs m).1 in
        let rs = cheapest (suffixes S rest (suc i) h.head.0) in
        ap head? (above-behind S rest i a h (y ∷ g))
        ∙ head?-map (extended a h) (greater_than (y ∷ g) rs)
        ∙ ap (Option.map (extended a h)) (ap (λ (z : ℕ). head? (greater_than (z ∷ g) rs)) (sym e) ∙ deeper h)

-- above a list that begins with a
pub next-after
    : (S : Search) → SortedHops S.hops → (ls : List Leg) (i a : ℕ) (g : List ℕ)
    → head? (greater_than (a ∷ g) (cheapest (suffixes S ls i a))) ≡ next_after S ls i a g
unfolding next_after
next-after S s [] i a g = ap head? (above-end S i a g)
next-after S s (leg ∷ rest) i a [] = ap head? (above-alone S leg rest i a) ∙ first_split S (leg ∷ rest) i a
next-after S s (leg ∷ rest) i a (y ∷ g) =
    let b = (reach_from S (leg ∷ rest) i a).reachable in
    ap (λ (rs : List Route). head? (greater_than (a ∷ y ∷ g) rs)) (cheapest-split-reached S leg rest i a)
    ∙ above_if b (a ∷ y ∷ g) (each (cheapest_behind S rest i a) (shortest_hops S leg rest i a))
    ∙ ap (option_if b) (next-through S s leg rest i a y g (λ h. next-after S s rest (suc i) h.head.0 g))

-- above any list: the first of the cheapest suffixes that is greater is what the recursion finds
pub next-split
    : (S : Search) → SortedHops S.hops → (ls : List Leg) (i a : ℕ) (g : List ℕ)
    → head? (greater_than g (cheapest (suffixes S ls i a))) ≡ next_from S ls i a g
unfolding next_from
next-split S s ls i a [] = ap head? (above-nothing S ls i a) ∙ first_split S ls i a
next-split S s ls i a (x ∷ g) =
    ⊎_elim
    (λ (t : ltb x a ≡ true).
    ap head? (above-smaller S ls i a x g (ltb-true x a t)) ∙ first_split S ls i a ∙ sym (λ j. next_by (t j) (eqb x a) first deeper))
    (λ (f : ltb x a ≡ false).
    ⊎_elim
    (λ (e : a ≡ x).
    ap (λ (z : ℕ). head? (greater_than (z ∷ g) (cheapest (suffixes S ls i a)))) (sym e)
    ∙ next-after S s ls i a g
    ∙ sym (λ j. next_by (f j) (eq-eqb x a (sym e) j) first deeper))
    (λ (k : a < x).
    ap head? (above_greater S ls i a x g k) ∙ sym (λ j. next_by (f j) (ne_eqb x a (λ e. omega arith) j) first deeper))
    (eq-or-lt_of_le (ltb-false x a f)))
    (decide (ltb x a))
  where
    first : Option Route
    first = first_from S ls i a

    deeper : Option Route
    deeper = next_after S ls i a g

-- its total is the least cost
pub next-total
    : (S : Search) → SortedHops S.hops → (ls : List Leg) (i a : ℕ) (g : List ℕ) {r : Route}
    → next_from S ls i a g ≡ some r
    → r.total ≡ (reach_from S ls i a).cost
unfolding greater_than
next-total S s ls i a g e =
    let m = head?-mem (greater_than g (cheapest (suffixes S ls i a))) (next-split S s ls i a g ∙ e) in
    (cheapest_mem (suffixes S ls i a) (keep_mem (λ (p : Route). below g p.addresses) (cheapest (suffixes S ls i a)) m).0).1

-- the least shortest path above a given list: the recursion from the source, where the least total keeps the bound
pub next-shortest
    : (S : Search) → SortedHops S.hops → (g : List ℕ)
    → head? (greater_than g (shortest_paths S))
    ≡ option_if (keeps_bound S.limits (reach_from S (legs S.sequence) 0 S.source).cost) (next_from S (legs S.sequence) 0 S.source g)
unfolding paths
next-shortest S s g =
    let kept = keeps_bound S.limits (reach_from S (legs S.sequence) 0 S.source).cost in
    ap (λ (ps : List Route). head? (greater_than g ps)) (bound_once S)
    ∙ above_if kept g (cheapest (paths S))
    ∙ ap (option_if kept) (next-split S s (legs S.sequence) 0 S.source g)
