-- The cheapest of a list of routes are those at the least total; and the bound needs to be looked at once: all shortest paths keep it or none does, and some
-- path is admissible exactly where the least total keeps it.
-- From the laws of `least_from`, with the bound kept by every smaller total.
use mathlib.Core.Path.{◌≡◌, refl, sym, subst, ◌∙◌, ap}
use mathlib.Core.Logic.{⊎_elim}
use mathlib.Core.Bool.{Bool, true, false, not, ◌&&◌}
use mathlib.Core.List.Memᴰ
use mathlib.Core.List.{List, [], ◌∷◌, Memᴰ}
use Prim.Native.Nat.{ℕ, ◌*◌, ◌^◌, ◌≤◌}
use native.Mathlib.Nat.{le_trans, mul-le-mul_right}
use native.Mathlib.Omega.{arith}
use lib.Dec.{eqb, leb}
use borrow.Author.Tests.{eqb-true, eqb-false, eq-eqb, leb-true, le-leb}
use Rattle.model.specs.declared.Limits.{Limits}
use Rattle.model.specs.Lists.{is_empty, keep, all}
use Rattle.model.specs.Floats.{at_most, units}
use Rattle.model.specs.Request.{Search}
use Rattle.model.specs.Path.{bound_kept, keeps_bound, Route, routes_if, paths, admissible, cheapest, shortest_paths}
use Rattle.laws.proofs.Tests.{decide, clash}
use Rattle.laws.proofs.Lists.{keep_mem, mem_keep, keep_agree, keep_none, all_mem, mem_all}
use Rattle.laws.proofs.Picks.{keep-keep}
use Rattle.laws.specs.Reach.{least_from}
use Rattle.laws.proofs.Reach.{least_from-reachable, least_from-unreached, least_from_some, least_from_at_most}

-- the route has the least total of the list
abbrev pub at_least_total : List Route → Route → Bool
at_least_total rs r = eqb r.total (least_from rs).cost

least_test : (rs : List Route) (r : Route) → Memᴰ r rs → all (λ (q : Route). leb r.total q.total) rs ≡ at_least_total rs r
least_test rs r m = ⊎_elim yes_least no_least (decide (at_least_total rs r))
  where
    test : Route → Bool
    test q = leb r.total q.total

    yes_least : at_least_total rs r ≡ true → all test rs ≡ at_least_total rs r
    yes_least t =
        let e = eqb-true r.total (least_from rs).cost t in
        mem_all test rs (λ q n. let l = least_from_at_most rs n in le-leb r.total q.total (omega arith)) ∙ sym t

    no_least : at_least_total rs r ≡ false → all test rs ≡ at_least_total rs r
    no_least f =
        ⊎_elim
        (λ (t : all test rs ≡ true).
        let s = least_from_some rs (least_from-reachable rs m) in
        let k = leb-true r.total s.0.total (all_mem test t s.1) in
        let l = least_from_at_most rs m in
        let e = s.2 in
        absurd (eqb-false r.total (least_from rs).cost f (omega arith)))
        (λ (u : all test rs ≡ false). u ∙ sym f)
        (decide (all test rs))

-- the cheapest are those at the least total
pub cheapest-least : (rs : List Route) → cheapest rs ≡ keep (at_least_total rs) rs
unfolding cheapest
cheapest-least rs = keep_agree (λ (r : Route). all (λ (q : Route). leb r.total q.total) rs) (at_least_total rs) rs (least_test rs)

pub cheapest_mem : (rs : List Route) {r : Route} → Memᴰ r (cheapest rs) → Memᴰ r rs × (r.total ≡ (least_from rs).cost)
cheapest_mem rs {r} m =
    let k = keep_mem (at_least_total rs) rs (subst (λ (l : List Route). Memᴰ r l) (cheapest-least rs) m) in
    (k.0, eqb-true r.total (least_from rs).cost k.1)

pub mem_cheapest : (rs : List Route) {r : Route} → Memᴰ r rs → r.total ≡ (least_from rs).cost → Memᴰ r (cheapest rs)
mem_cheapest rs {r} m e =
    subst (λ (l : List Route). Memᴰ r l) (sym (cheapest-least rs)) (mem_keep (at_least_total rs) m (eq-eqb r.total (least_from rs).cost e))

-- there is a cheapest route where there is one at all
pub cheapest_some : (rs : List Route) → (least_from rs).reachable ≡ true → is_empty (cheapest rs) ≡ false
cheapest_some rs t = let s = least_from_some rs t in go (cheapest rs) (mem_cheapest rs s.1 s.2)
  where
    go : (qs : List Route) {q : Route} → Memᴰ q qs → is_empty qs ≡ false
    go [] m = absurd (Memᴰ.not-nil m)
    go (x ∷ xs) m = refl

pub cheapest_nil : cheapest [] ≡ []
unfolding cheapest keep
cheapest_nil = refl

-- ---- the bound

-- what keeps the bound, every smaller total keeps
pub keeps_bound_smaller : (l : Limits) (n m : ℕ) → n ≤ m → keeps_bound l m ≡ true → keeps_bound l n ≡ true
unfolding keeps_bound at_most
keeps_bound_smaller l n m h = go l.bounded
  where
    go : (b : Bool) → bound_kept b l m ≡ true → bound_kept b l n ≡ true
    go true t =
        le-leb (n * 2 ^ 149) (units l.bound) (le_trans (mul-le-mul_right (2 ^ 149) h) (leb-true (m * 2 ^ 149) (units l.bound) t))
    go false t = refl

-- a first test that holds wherever the second does changes nothing
and_second : (a b : Bool) → (b ≡ true → a ≡ true) → (a && b) ≡ b
and_second true b h = refl
and_second false true h = h refl
and_second false false h = refl

-- Where every smaller total passes a test that some total passes, the cheapest of those that pass it are the cheapest of all, or none.
module _ (p : ℕ → Bool) (smaller : (n m : ℕ) → n ≤ m → p m ≡ true → p n ≡ true) where
  passing : List Route → List Route
  passing rs = keep (λ (r : Route). p r.total) rs

  -- the least total passes, and so it is that of those that pass
  passing_least : (rs : List Route) → (least_from rs).reachable ≡ true → p (least_from rs).cost ≡ true → (least_from (passing rs)).cost ≡ (least_from rs).cost
  unfolding passing
  passing_least rs t k =
      let s = least_from_some rs t in
      let m = mem_keep (λ (r : Route). p r.total) s.1 (ap p s.2 ∙ k) in
      let u = least_from_some (passing rs) (least_from-reachable (passing rs) m) in
      let above = least_from_at_most rs (keep_mem (λ (r : Route). p r.total) rs u.1).0 in
      let below = least_from_at_most (passing rs) m in
      let e = s.2 in
      let f = u.2 in
      omega arith

  passing_all : (rs : List Route) → (least_from rs).reachable ≡ true → p (least_from rs).cost ≡ true → cheapest (passing rs) ≡ cheapest rs
  unfolding passing
  passing_all rs t k =
      cheapest-least (passing rs)
      ∙ ap (λ (n : ℕ). keep (λ (r : Route). eqb r.total n) (passing rs)) (passing_least rs t k)
      ∙ keep-keep (at_least_total rs) (λ (r : Route). p r.total) rs
      ∙ keep_agree (λ (r : Route). p r.total && at_least_total rs r) (at_least_total rs) rs
      (λ r m. and_second (p r.total) (at_least_total rs r) (λ e. ap p (eqb-true r.total (least_from rs).cost e) ∙ k))
      ∙ sym (cheapest-least rs)

  passing_none : (rs : List Route) → p (least_from rs).cost ≡ false → passing rs ≡ []
  unfolding passing
  passing_none rs k =
      keep_none (λ (r : Route). p r.total) rs
      (λ r m.
      ⊎_elim
      (λ (t : p r.total ≡ true). clash (smaller (least_from rs).cost r.total (least_from_at_most rs m) t) k)
      (λ (f : p r.total ≡ false). f)
      (decide (p r.total)))

  cheapest_passing : (rs : List Route) → cheapest (keep (λ (r : Route). p r.total) rs) ≡ routes_if (p (least_from rs).cost) (cheapest rs)
  unfolding passing keep
  cheapest_passing rs = go (p (least_from rs).cost) refl (least_from rs).reachable refl
    where
      go : (b : Bool) → p (least_from rs).cost ≡ b → (c : Bool) → (least_from rs).reachable ≡ c → cheapest (passing rs) ≡ routes_if b (cheapest rs)
      go false k c t = ap cheapest (passing_none rs k) ∙ cheapest_nil
      go true k true t = passing_all rs t k
      go true k false t = let e = least_from-unreached rs t in ap (λ (qs : List Route). cheapest (passing qs)) e ∙ ap cheapest (sym e)

-- the shortest paths are the cheapest of all paths where the least total keeps the bound, and none otherwise
pub bound_once : (S : Search) → shortest_paths S ≡ routes_if (keeps_bound S.limits (least_from (paths S)).cost) (cheapest (paths S))
unfolding shortest_paths admissible
bound_once S = cheapest_passing (keeps_bound S.limits) (keeps_bound_smaller S.limits) (paths S)

-- no path is admissible exactly where there is none, or the least total doesn't keep the bound
pub admissible_none : (S : Search) → is_empty (admissible S) ≡ not ((least_from (paths S)).reachable && keeps_bound S.limits (least_from (paths S)).cost)
unfolding admissible passing keep
admissible_none S = go (least_from (paths S)).reachable refl (keeps_bound S.limits (least_from (paths S)).cost) refl
  where
    kept : Route → Bool
    kept r = keeps_bound S.limits r.total

    some : (qs : List Route) {q : Route} → Memᴰ q qs → is_empty qs ≡ false
    some [] m = absurd (Memᴰ.not-nil m)
    some (x ∷ xs) m = refl

    go
        : (b : Bool) → (least_from (paths S)).reachable ≡ b → (c : Bool) → keeps_bound S.limits (least_from (paths S)).cost ≡ c
        → is_empty (admissible S) ≡ not (b && c)
    go true t true k = let s = least_from_some (paths S) t in some (keep kept (paths S)) (mem_keep kept s.1 (ap (keeps_bound S.limits) s.2 ∙ k))
    go true t false k = ap is_empty (passing_none (keeps_bound S.limits) (keeps_bound_smaller S.limits) (paths S) k)
    go false f c k = ap (λ (rs : List Route). is_empty (keep kept rs)) (least_from-unreached (paths S) f)
