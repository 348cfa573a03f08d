-- An engine's plain view of a list of suffixes: whether there is one, and the least total (0 where there is none). What it is of two lists one after
-- the other (the better of the two), behind a hop (its cost added) and over a list of hops (a running minimum in the list's order, as a loop keeps it).
-- From the laws of `least`; the running minimum by recursion on the list.
use mathlib.Core.Path.{◌≡◌, refl, sym, ◌∙◌, ap}
use mathlib.Core.Logic.{⊎_elim}
use mathlib.Core.Bool.{Bool, true, false, not, ◌&&◌, ◌||◌, true≢false, false≢true}
use mathlib.Core.List.Memᴰ
use mathlib.Core.List.{List, [], ◌∷◌, ◌++◌, map, append_assoc, append-nil, Memᴰ}
use Prim.Native.Nat.{ℕ, ◌+◌, ◌≤◌, ◌<◌, min}
use native.Mathlib.Omega.{arith}
use lib.Dec.{ltb}
use borrow.Author.Tests.{ltb-true, ltb-false, lt-ltb, le-ltb}
use Rattle.model.specs.declared.Hop.{Hop}
use Rattle.model.specs.Lists.{least, keep, keep_if, each}
use Rattle.model.specs.Path.{Route, extended}
use Rattle.laws.specs.Reach.{Reach, unreached, totals, least_from, reach_if, better_if, better, via, best_from}
use Rattle.laws.proofs.Tests.{decide}
use Rattle.laws.proofs.Lists.{map_mem, mem-map, map-append}
use Rattle.laws.proofs.Least.{least_mem, least_at_most, least-append, least_add}

-- ---- what a step of the running minimum does, in each case of a loop's tests

-- nothing new
pub better_none : (best new : Reach) → new.reachable ≡ false → better best new ≡ best
better_none best new n = λ i. better_if (n i && (not best.reachable || ltb new.cost best.cost)) best new

-- the first one
pub better_first : (best new : Reach) → new.reachable ≡ true → best.reachable ≡ false → better best new ≡ new
better_first best new n b = λ i. better_if (n i && (not (b i) || ltb new.cost best.cost)) best new

-- a cheaper one
pub better_less : (best new : Reach) → new.reachable ≡ true → new.cost < best.cost → better best new ≡ new
better_less best new n l =
    (λ i. better_if (n i && (not best.reachable || lt-ltb new.cost best.cost l i)) best new) ∙ go best.reachable
  where
    go : (b : Bool) → better_if (not b || true) best new ≡ new
    go true = refl
    go false = refl

-- one that costs no less
pub better_not_less : (best new : Reach) → best.reachable ≡ true → best.cost ≤ new.cost → better best new ≡ best
better_not_less best new b l =
    (λ i. better_if (new.reachable && (not (b i) || le-ltb new.cost best.cost l i)) best new) ∙ go new.reachable
  where
    go : (n : Bool) → better_if (n && false) best new ≡ best
    go true = refl
    go false = refl

-- ---- lists of routes

-- of no routes
pub least_from_nil : least_from [] ≡ unreached
unfolding least_from least
least_from_nil = refl

-- of one route
pub least_from_one : (r : Route) → least_from (r ∷ []) ≡ record { reachable = true; cost = r.total }
unfolding least_from least
least_from_one r = refl

-- reachable where there is a route
pub least_from-reachable : (rs : List Route) {r : Route} → Memᴰ r rs → (least_from rs).reachable ≡ true
unfolding least_from
least_from-reachable [] m = absurd (Memᴰ.not-nil m)
least_from-reachable (q ∷ qs) m = refl

-- and there only
pub least_from-unreached : (rs : List Route) → (least_from rs).reachable ≡ false → rs ≡ []
unfolding least_from
least_from-unreached [] e = refl
least_from-unreached (q ∷ qs) e = absurd (true≢false e)

-- the cost is the total of some route
pub least_from_some : (rs : List Route) → (least_from rs).reachable ≡ true → (r : Route) × Memᴰ r rs × (r.total ≡ (least_from rs).cost)
unfolding least_from
least_from_some [] e = absurd (false≢true e)
least_from_some (q ∷ qs) e =
    let r = map_mem (λ (x : Route). x.total) (q ∷ qs) (least_mem (totals (q ∷ qs)) refl) in
    (r.0, r.1, sym r.2)

-- and at most that of each
pub least_from_at_most : (rs : List Route) {r : Route} → Memᴰ r rs → (least_from rs).cost ≤ r.total
unfolding least_from
least_from_at_most rs m = least_at_most (mem-map (λ (x : Route). x.total) m)

-- two that are both reachable: the smaller cost
better-both : (m n : ℕ) → better (record { reachable = true; cost = m }) (record { reachable = true; cost = n }) ≡ record { reachable = true; cost = min m n }
better-both m n =
    ⊎_elim
    (λ (t : ltb n m ≡ true).
    let h = ltb-true n m t in
    better_less (record { reachable = true; cost = m }) (record { reachable = true; cost = n }) refl h ∙ ap at (omega arith))
    (λ (f : ltb n m ≡ false).
    let h = ltb-false n m f in
    better_not_less (record { reachable = true; cost = m }) (record { reachable = true; cost = n }) refl h ∙ ap at (omega arith))
    (decide (ltb n m))
  where
    at : ℕ → Reach
    at k = record { reachable = true; cost = k }

-- of two lists one after the other: the better of the two
pub least_from-append : (rs qs : List Route) → least_from (rs ++ qs) ≡ better (least_from rs) (least_from qs)
unfolding least_from
least_from-append [] [] = refl
least_from-append [] (q ∷ qs) = refl
least_from-append (r ∷ rs) [] = ap least_from (append-nil (r ∷ rs))
least_from-append (r ∷ rs) (q ∷ qs) =
    ap {B = Reach} (λ (n : ℕ). record { reachable = true; cost = n })
    (ap least (map-append (λ (x : Route). x.total) (r ∷ rs) (q ∷ qs)) ∙ least-append (totals (r ∷ rs)) (totals (q ∷ qs)) refl refl)
    ∙ sym (better-both (least (totals (r ∷ rs))) (least (totals (q ∷ qs))))

totals-extended : (a : ℕ) (h : Hop) (rs : List Route) → totals (map (extended a h) rs) ≡ map (λ (n : ℕ). h.cost + n) (totals rs)
totals-extended a h [] = refl
totals-extended a h (r ∷ rs) = ap {B = List ℕ} (λ (l : List ℕ). (h.cost + r.total) ∷ l) (totals-extended a h rs)

-- behind a hop: its cost more
pub least_from-extended : (a : ℕ) (h : Hop) (rs : List Route) → least_from (map (extended a h) rs) ≡ via h.cost (least_from rs)
unfolding least_from
least_from-extended a h [] = least_from_nil
least_from-extended a h (r ∷ rs) =
    ap {B = Reach} (λ (n : ℕ). record { reachable = true; cost = n })
    (ap least (totals-extended a h (r ∷ rs)) ∙ least_add h.cost (totals (r ∷ rs)) refl)

-- ---- the running minimum

module _ {A : Type 0} where
  best_from-least
      : (acc : List Route) (rs : A → List Route) (xs : List A)
      → best_from (least_from acc) (λ (x : A). least_from (rs x)) xs ≡ least_from (acc ++ each rs xs)
  unfolding best_from each
  best_from-least acc rs [] = ap least_from (sym (append-nil acc))
  best_from-least acc rs (x ∷ xs) =
      ap (λ (b : Reach). best_from b (λ (y : A). least_from (rs y)) xs) (sym (least_from-append acc (rs x)))
      ∙ best_from-least (acc ++ rs x) rs xs
      ∙ ap least_from (append_assoc acc (rs x) (each rs xs))

  -- of the lists made for each element, one after the other: the best of what each gives
  pub least_from_each : (rs : A → List Route) (xs : List A) → least_from (each rs xs) ≡ best_from unreached (λ (x : A). least_from (rs x)) xs
  least_from_each rs xs = sym (best_from-least [] rs xs) ∙ ap (λ (b : Reach). best_from b (λ (y : A). least_from (rs y)) xs) least_from_nil

  -- two functions that agree on the elements have the same best
  pub best_from_agree : (best : Reach) (f g : A → Reach) (xs : List A) → ((x : A) → Memᴰ x xs → f x ≡ g x) → best_from best f xs ≡ best_from best g xs
  unfolding best_from
  best_from_agree best f g [] h = refl
  best_from_agree best f g (x ∷ xs) h =
      ap (λ (b : Reach). best_from (better best b) f xs) (h x (Memᴰ.head refl))
      ∙ best_from_agree (better best (g x)) f g xs (λ y m. h y (Memᴰ.tail m))

  -- first over one list, then over the other
  pub best_from-append : (best : Reach) (f : A → Reach) (xs ys : List A) → best_from best f (xs ++ ys) ≡ best_from (best_from best f xs) f ys
  unfolding best_from
  best_from-append best f [] ys = refl
  best_from-append best f (x ∷ xs) ys = best_from-append (better best (f x)) f xs ys

  -- over those that pass a test: an element that fails it gives nothing
  pub best_from-keep
      : (best : Reach) (p : A → Bool) (f : A → Reach) (xs : List A)
      → best_from best f (keep p xs) ≡ best_from best (λ (x : A). reach_if (p x) (f x)) xs
  unfolding best_from keep
  best_from-keep best p f [] = refl
  best_from-keep best p f (x ∷ xs) = go (p x) (λ b. best_from-keep b p f xs)
    where
      go
          : (t : Bool) → ((b : Reach) → best_from b f (keep p xs) ≡ best_from b (λ (y : A). reach_if (p y) (f y)) xs)
          → best_from best f (keep_if t x (keep p xs)) ≡ best_from (better best (reach_if t (f x))) (λ (y : A). reach_if (p y) (f y)) xs
      go true r = r (better best (f x))
      go false r = r best
