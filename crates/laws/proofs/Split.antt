-- The cheapest suffixes split by their first hop: they are those behind the hops that lie on a shortest way, in file order, each list the cheapest suffixes
-- behind its hop. So the first of them goes through the first such hop, by recursion over the legs. From the laws of `least_from` and `cheapest`.
use mathlib.Core.Path.{◌≡◌, refl, sym, subst, ◌∙◌, ap}
use mathlib.Core.Logic.{⊎_elim}
use mathlib.Core.Bool.{Bool, true, false, ◌&&◌}
use mathlib.Core.List.{List, [], ◌∷◌, map, head?, Memᴰ}
use mathlib.Core.Option
use mathlib.Core.Option.{none, some, none-ne-some, some-ne-none, some-injective}
use Prim.Native.Nat.{ℕ, suc, ◌+◌, ◌≤◌}
use native.Mathlib.Omega.{arith}
use lib.Dec.{eqb}
use borrow.Author.Tests.{eqb-true, eqb-false, eq-eqb, ne_eqb}
use Rattle.model.specs.declared.Hop.{Hop}
use Rattle.model.specs.declared.Round.{Round}
use Rattle.model.specs.Lists.{is_empty, keep, all, each}
use Rattle.model.specs.Request.{Search}
use Rattle.model.specs.Path.{Leg, allowed, Route, extended, leaves, hops_from, routes_if, suffixes, cheapest}
use Rattle.model.specs.Answers.{plain4}
use Rattle.model.specs.Calls.{nothing, found, first_of}
use Rattle.laws.proofs.Tests.{decide, clash, and_both, both_and}
use Rattle.laws.proofs.Lists.{keep_mem, keep_agree, keep_none, mem-map, mem_each}
use Rattle.laws.proofs.Picks.{list_if, keep-keep, keep-map, keep_each, each_agree, each_keep}
use Rattle.laws.specs.Descent.{option_if, ending, on_shortest, shortest_hops, first_from}
use Rattle.laws.proofs.Firsts.{through_agree, head?-some, head?-map, head?-each}
use Rattle.laws.proofs.Suffixes.{behind}
use Rattle.laws.specs.Reach.{Reach, arrived, least_from, reach_if, reach_from}
use Rattle.laws.proofs.Reach.{least_from-reachable, least_from-unreached, least_from_some, least_from_at_most}
use Rattle.laws.proofs.TreeLeast.{step_end}
use Rattle.laws.proofs.Cheapest.{at_least_total, cheapest-least, cheapest_some, cheapest_nil}

-- the cheapest suffixes behind a hop
abbrev pub cheapest_behind : Search → List Leg → ℕ → ℕ → Hop → List Route
cheapest_behind S rest i a h = map (extended a h) (cheapest (suffixes S rest (suc i) h.head.0))

-- ---- the split

eqb_agree : (a b c d : ℕ) → (a ≡ b → c ≡ d) → (c ≡ d → a ≡ b) → eqb a b ≡ eqb c d
eqb_agree a b c d f g =
    ⊎_elim
    (λ (t : eqb a b ≡ true). t ∙ sym (eq-eqb c d (f (eqb-true a b t))))
    (λ (u : eqb a b ≡ false). u ∙ sym (ne_eqb c d (λ e. eqb-false a b u (g e))))
    (decide (eqb a b))

-- Of the routes behind one hop, those that have the least total of all are its cheapest where the hop lies on a shortest way, and none otherwise.
module _ (here : Reach) (a : ℕ) (h : Hop) (rs : List Route) (bound : (r : Route) → Memᴰ r rs → here.cost ≤ h.cost + r.total) where
  on_it : on_shortest here h (least_from rs) ≡ true → keep (λ (r : Route). eqb (h.cost + r.total) here.cost) rs ≡ cheapest rs
  on_it t =
      let b = and_both (least_from rs).reachable (eqb (h.cost + (least_from rs).cost) here.cost) t in
      let e = eqb-true (h.cost + (least_from rs).cost) here.cost b.1 in
      keep_agree (λ (r : Route). eqb (h.cost + r.total) here.cost) (at_least_total rs) rs
      (λ r m. eqb_agree (h.cost + r.total) here.cost r.total (least_from rs).cost (λ x. omega arith) (λ x. omega arith))
      ∙ sym (cheapest-least rs)

  off-it : on_shortest here h (least_from rs) ≡ false → keep (λ (r : Route). eqb (h.cost + r.total) here.cost) rs ≡ []
  off-it f =
      keep_none (λ (r : Route). eqb (h.cost + r.total) here.cost) rs
      (λ r m.
      ne_eqb (h.cost + r.total) here.cost
      (λ x.
      let t = least_from-reachable rs m in
      let s = least_from_some rs t in
      let k = bound s.0 s.1 in
      let e = s.2 in
      let l = least_from_at_most rs m in
      clash
      (both_and (least_from rs).reachable (eqb (h.cost + (least_from rs).cost) here.cost) t
      (eq-eqb (h.cost + (least_from rs).cost) here.cost (omega arith)))
      f))

  part
      : keep (λ (r : Route). eqb r.total here.cost) (map (extended a h) rs)
      ≡ list_if (on_shortest here h (least_from rs)) (map (extended a h) (cheapest rs))
  part = keep-map (λ (r : Route). eqb r.total here.cost) (extended a h) rs ∙ go (on_shortest here h (least_from rs)) refl
    where
      go
          : (b : Bool)
          → on_shortest here h (least_from rs) ≡ b
          → map (extended a h) (keep (λ (r : Route). eqb (h.cost + r.total) here.cost) rs) ≡ list_if b (map (extended a h) (cheapest rs))
      go true t = ap (map (extended a h)) (on_it t)
      go false f = ap (map (extended a h)) (off-it f)

-- with no leg left the one route, where the address is allowed
pub cheapest-end : (S : Search) (i a : ℕ) → cheapest (suffixes S [] i a) ≡ routes_if (allowed S i a) (ending a ∷ [])
unfolding suffixes cheapest keep
cheapest-end S i a = go (allowed S i a)
  where
    go : (b : Bool) → cheapest (routes_if b (ending a ∷ [])) ≡ routes_if b (ending a ∷ [])
    go true = refl
    go false = refl

split-allowed
    : (S : Search) (leg : Leg) (rest : List Leg) (i a : ℕ)
    → suffixes S (leg ∷ rest) i a ≡ each (behind S rest i a) (hops_from S leg a)
    → cheapest (suffixes S (leg ∷ rest) i a) ≡ each (cheapest_behind S rest i a) (shortest_hops S leg rest i a)
unfolding shortest_hops
split-allowed S leg rest i a e =
    let here = reach_from S (leg ∷ rest) i a in
    cheapest-least (suffixes S (leg ∷ rest) i a)
    ∙ ap (keep (λ (r : Route). eqb r.total here.cost)) e
    ∙ keep_each (λ (r : Route). eqb r.total here.cost) (behind S rest i a) (hops_from S leg a)
    ∙ each_agree
    (λ (h : Hop). keep (λ (r : Route). eqb r.total here.cost) (behind S rest i a h))
    (λ (h : Hop). list_if (on_shortest here h (reach_from S rest (suc i) h.head.0)) (cheapest_behind S rest i a h))
    (hops_from S leg a)
    (λ h m.
    part here a h (suffixes S rest (suc i) h.head.0)
    (λ r n.
    least_from_at_most (suffixes S (leg ∷ rest) i a)
    (subst (λ (rs : List Route). Memᴰ (extended a h r) rs) (sym e) (mem_each (behind S rest i a) m (mem-map (extended a h) n)))))
    ∙ sym
    (each_keep (λ (h : Hop). on_shortest here h (reach_from S rest (suc i) h.head.0)) (cheapest_behind S rest i a) (hops_from S leg a))

-- with a leg left, where the address is allowed: the cheapest behind each hop on a shortest way, one list after the other
pub cheapest-split
    : (S : Search) (leg : Leg) (rest : List Leg) (i a : ℕ)
    → cheapest (suffixes S (leg ∷ rest) i a) ≡ routes_if (allowed S i a) (each (cheapest_behind S rest i a) (shortest_hops S leg rest i a))
unfolding suffixes
cheapest-split S leg rest i a = go (allowed S i a) refl
  where
    go : (b : Bool) → allowed S i a ≡ b → cheapest (suffixes S (leg ∷ rest) i a) ≡ routes_if b (each (cheapest_behind S rest i a) (shortest_hops S leg rest i a))
    go true t = split-allowed S leg rest i a (ap (λ (b : Bool). routes_if b (each (behind S rest i a) (hops_from S leg a))) t)
    go false f = ap (λ (b : Bool). cheapest (routes_if b (each (behind S rest i a) (hops_from S leg a)))) f ∙ cheapest_nil

-- ---- the same by what an engine knows: whether the address reaches the destination

reached_if : (b : Bool) (rs : List Route) → (least_from (routes_if b rs)).reachable ≡ true → b ≡ true
unfolding least_from
reached_if true rs t = refl
reached_if false rs t = t

-- what is reachable is allowed
pub reached-allowed : (S : Search) (ls : List Leg) (i a : ℕ) → (reach_from S ls i a).reachable ≡ true → allowed S i a ≡ true
unfolding suffixes
reached-allowed S [] i a t = reached_if (allowed S i a) (ending a ∷ []) t
reached-allowed S (leg ∷ rest) i a t = reached_if (allowed S i a) (each (behind S rest i a) (hops_from S leg a)) t

pub cheapest-split-reached
    : (S : Search) (leg : Leg) (rest : List Leg) (i a : ℕ)
    → cheapest (suffixes S (leg ∷ rest) i a)
    ≡ routes_if (reach_from S (leg ∷ rest) i a).reachable (each (cheapest_behind S rest i a) (shortest_hops S leg rest i a))
cheapest-split-reached S leg rest i a = go (reach_from S (leg ∷ rest) i a).reachable refl
  where
    all_behind : List Route
    all_behind = each (cheapest_behind S rest i a) (shortest_hops S leg rest i a)

    go : (b : Bool) → (reach_from S (leg ∷ rest) i a).reachable ≡ b → cheapest (suffixes S (leg ∷ rest) i a) ≡ routes_if b all_behind
    go true t = cheapest-split S leg rest i a ∙ ap (λ (b : Bool). routes_if b all_behind) (reached-allowed S (leg ∷ rest) i a t)
    go false f = ap cheapest (least_from-unreached (suffixes S (leg ∷ rest) i a) f) ∙ cheapest_nil

-- what is known of a hop on a shortest way
pub record ShortestHop (S : Search) (leg : Leg) (rest : List Leg) (i a : ℕ) (h : Hop) : Type 0 where
  pub leaving : Memᴰ h (hops_from S leg a)
  pub reachable : (reach_from S rest (suc i) h.head.0).reachable ≡ true
  pub cost : h.cost + (reach_from S rest (suc i) h.head.0).cost ≡ (reach_from S (leg ∷ rest) i a).cost

pub shortest_hops-mem
    : (S : Search) (leg : Leg) (rest : List Leg) (i a : ℕ) {h : Hop} → Memᴰ h (shortest_hops S leg rest i a) → ShortestHop S leg rest i a h
unfolding shortest_hops
shortest_hops-mem S leg rest i a {h} m =
    let here = reach_from S (leg ∷ rest) i a in
    let there = reach_from S rest (suc i) h.head.0 in
    let k = keep_mem (λ (g : Hop). on_shortest here g (reach_from S rest (suc i) g.head.0)) (hops_from S leg a) m in
    let b = and_both there.reachable (eqb (h.cost + there.cost) here.cost) k.1 in
    record { leaving = k.0; reachable = b.0; cost = eqb-true (h.cost + there.cost) here.cost b.1 }

-- they are one test on the hop records, where an engine knows the least costs here and at the heads of the records that leave the address
pub shortest_hops-records
    : (S : Search) (leg : Leg) (rest : List Leg) (i a : ℕ) (here : Reach) (known : ℕ → Reach)
    → here ≡ reach_from S (leg ∷ rest) i a
    → ((h : Hop) → Memᴰ h S.hops → leaves S leg a h ≡ true → known h.head.0 ≡ reach_from S rest (suc i) h.head.0)
    → shortest_hops S leg rest i a ≡ keep (λ (h : Hop). leaves S leg a h && on_shortest here h (known h.head.0)) S.hops
unfolding shortest_hops hops_from
shortest_hops-records S leg rest i a here known e k =
    keep_agree
    (λ (h : Hop). on_shortest (reach_from S (leg ∷ rest) i a) h (reach_from S rest (suc i) h.head.0))
    (λ (h : Hop). on_shortest here h (known h.head.0))
    (hops_from S leg a)
    (λ h m. let r = keep_mem (leaves S leg a) S.hops m in λ j. on_shortest (sym e j) h (sym (k h r.0 r.1) j))
    ∙ keep-keep (λ (h : Hop). on_shortest here h (known h.head.0)) (leaves S leg a) S.hops

-- behind such a hop there is a suffix
pub behind-some
    : (S : Search) (leg : Leg) (rest : List Leg) (i a : ℕ) (h : Hop)
    → Memᴰ h (shortest_hops S leg rest i a)
    → is_empty (cheapest_behind S rest i a h) ≡ false
behind-some S leg rest i a h m =
    go (cheapest (suffixes S rest (suc i) h.head.0))
    (cheapest_some (suffixes S rest (suc i) h.head.0) (shortest_hops-mem S leg rest i a m).reachable)
  where
    go : (rs : List Route) → is_empty rs ≡ false → is_empty (map (extended a h) rs) ≡ false
    go [] e = e
    go (r ∷ rs) e = refl

-- ---- the first of the cheapest suffixes

end-reached : (S : Search) (i a : ℕ) → (reach_from S [] i a).reachable ≡ allowed S i a
end-reached S i a = ap (λ (x : Reach). x.reachable) (step_end S i a) ∙ go (allowed S i a)
  where
    go : (b : Bool) → (reach_if b arrived).reachable ≡ b
    go true = refl
    go false = refl

head?-if : (b : Bool) (rs : List Route) → head? (routes_if b rs) ≡ option_if b (head? rs)
head?-if true rs = refl
head?-if false rs = refl

behind-first
    : (S : Search) (rest : List Leg) (i a : ℕ) (h : Hop)
    → head? (cheapest (suffixes S rest (suc i) h.head.0)) ≡ first_from S rest (suc i) h.head.0
    → head? (cheapest_behind S rest i a h) ≡ Option.map (extended a h) (first_from S rest (suc i) h.head.0)
behind-first S rest i a h e = head?-map (extended a h) (cheapest (suffixes S rest (suc i) h.head.0)) ∙ ap (Option.map (extended a h)) e

pub first_split : (S : Search) (ls : List Leg) (i a : ℕ) → head? (cheapest (suffixes S ls i a)) ≡ first_from S ls i a
unfolding first_from
first_split S [] i a =
    ap head? (cheapest-end S i a)
    ∙ head?-if (allowed S i a) (ending a ∷ [])
    ∙ ap (λ (b : Bool). option_if b (some (ending a))) (sym (end-reached S i a))
first_split S (leg ∷ rest) i a =
    ap head? (cheapest-split-reached S leg rest i a)
    ∙ head?-if (reach_from S (leg ∷ rest) i a).reachable (each (cheapest_behind S rest i a) (shortest_hops S leg rest i a))
    ∙ ap (option_if (reach_from S (leg ∷ rest) i a).reachable)
    (head?-each (cheapest_behind S rest i a) (shortest_hops S leg rest i a) (behind-some S leg rest i a)
    ∙ through_agree
    (λ (h : Hop). head? (cheapest_behind S rest i a h))
    (λ (h : Hop). Option.map (extended a h) (first_from S rest (suc i) h.head.0))
    (shortest_hops S leg rest i a)
    (λ h m. behind-first S rest i a h (first_split S rest (suc i) h.head.0)))

-- behind a hop the first is that from its head
pub first-behind
    : (S : Search) (rest : List Leg) (i a : ℕ) (h : Hop)
    → head? (cheapest_behind S rest i a h) ≡ Option.map (extended a h) (first_from S rest (suc i) h.head.0)
first-behind S rest i a h = behind-first S rest i a h (first_split S rest (suc i) h.head.0)

-- there is one where the destination can be reached
pub first_there : (S : Search) (ls : List Leg) (i a : ℕ) → (reach_from S ls i a).reachable ≡ true → (r : Route) × (first_from S ls i a ≡ some r)
first_there S ls i a t =
    let k = head?-some (cheapest (suffixes S ls i a)) (cheapest_some (suffixes S ls i a) t) in
    (k.0, sym (first_split S ls i a) ∙ k.1)

-- what first and next answer goes by the first path alone
pub answer_some : (round : Round) (number : ℕ) (ps : List Route) {p : Route} → head? ps ≡ some p → first_of round number ps ≡ found round p
answer_some round number [] {p} e = absurd (none-ne-some p e)
answer_some round number (q ∷ ps) {p} e = ap (found round) (some-injective q p e)

pub answer_none : (round : Round) (number : ℕ) (ps : List Route) → head? ps ≡ none → first_of round number ps ≡ nothing (plain4 number)
answer_none round number [] e = refl
answer_none round number (q ∷ ps) e = absurd (some-ne-none q e)
