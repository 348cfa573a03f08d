-- The total that `suffixes` carries along is the sum of the costs between the addresses, where the hop records stand in file order, and it is at most the largest
-- cost times the number of legs. By recursion over the legs left; between two addresses of a leg there is one hop record only.
use mathlib.Core.Path.{◌≡◌, refl, sym, subst, ◌∙◌, ap, ap₂}
use mathlib.Core.Bool.{true, ◌&&◌}
use mathlib.Core.List.Memᴰ
use mathlib.Core.List.{List, [], ◌∷◌, Memᴰ}
use Prim.Native.Nat.{ℕ, suc, ◌+◌, ◌*◌, ◌≤◌}
use native.Mathlib.Nat.{suc-mul}
use native.Mathlib.Omega.{arith}
use lib.ListN.{length}
use lib.Dec.{eqb}
use borrow.Author.Tests.{eqb-true, eq-eqb}
use Rattle.model.specs.declared.Hop.{Hop}
use Rattle.model.specs.Lists.{keep}
use Rattle.model.specs.Profile.{between}
use Rattle.model.specs.Request.{Search}
use Rattle.model.specs.Path.{Leg, leads, first_cost, cost_between, total_over, Route, suffixes}
use Rattle.laws.proofs.Tests.{and_both, both_and}
use Rattle.laws.proofs.Lists.{keep_mem, mem_keep}
use Rattle.laws.proofs.HopKeys.{hop_key, SortedHops, hop_only}
use Rattle.laws.proofs.Suffixes.{hops_from_mem, suffixes-end, suffixes_step, suffix_begins}

-- ---- the cost between two addresses

first_cost_lem : (hs : List Hop) (h : Hop) → Memᴰ h hs → ((g : Hop) → Memᴰ g hs → g ≡ h) → first_cost hs ≡ h.cost
first_cost_lem [] h m only = absurd (Memᴰ.not-nil m)
first_cost_lem (g ∷ hs) h m only = ap (λ (x : Hop). x.cost) (only g (Memᴰ.head refl))

leads-key : (leg : Leg) (a b : ℕ) (h : Hop) → leads leg a b h ≡ true → hop_key h ≡ leg.from ∷ leg.to ∷ a ∷ b ∷ []
leads-key leg a b h t =
    let c = and_both (between leg.from leg.to h) (eqb h.tail.0 a && eqb h.head.0 b) t in
    let d = and_both (eqb h.from.0 leg.from) (eqb h.to.0 leg.to) c.0 in
    let e = and_both (eqb h.tail.0 a) (eqb h.head.0 b) c.1 in
    λ i.
    eqb-true h.from.0 leg.from d.0 i
    ∷ eqb-true h.to.0 leg.to d.1 i
    ∷ eqb-true h.tail.0 a e.0 i
    ∷ eqb-true h.head.0 b e.1 i
    ∷ []

-- the cost from a to b on a leg is that of the hop record that leads there
pub step_cost : (hs : List Hop) → SortedHops hs → (leg : Leg) (a b : ℕ) (h : Hop) → Memᴰ h hs → leads leg a b h ≡ true → cost_between hs leg a b ≡ h.cost
unfolding cost_between
step_cost hs s leg a b h m t =
    first_cost_lem (keep (leads leg a b) hs) h (mem_keep (leads leg a b) m t)
    (λ g n.
    let k = keep_mem (leads leg a b) hs n in
    hop_only hs s g h k.0 m (leads-key leg a b g k.1 ∙ sym (leads-key leg a b h t)))

-- ---- the total of a suffix

further-total
    : (hs : List Hop) (leg : Leg) (rest : List Leg) (a b : ℕ) (p more : List ℕ)
    → p ≡ b ∷ more
    → total_over hs (leg ∷ rest) (a ∷ p) ≡ cost_between hs leg a b + total_over hs rest p
unfolding total_over
further-total hs leg rest a b p more e =
    subst (λ (q : List ℕ). total_over hs (leg ∷ rest) (a ∷ q) ≡ cost_between hs leg a b + total_over hs rest q) (sym e) refl

pub suffix-total
    : (S : Search)
    → SortedHops S.hops
    → (rest : List Leg) (i a : ℕ) (r : Route)
    → Memᴰ r (suffixes S rest i a)
    → r.total ≡ total_over S.hops rest r.addresses
unfolding total_over
suffix-total S s [] i a r m = ap (λ (q : Route). q.total) (suffixes-end S i a m).1
suffix-total S s (leg ∷ rest) i a r m =
    let x = suffixes_step S leg rest i a m in
    let h = x.hop in
    let k = hops_from_mem S leg a x.leaving in
    let b = suffix_begins S rest (suc i) h.head.0 x.further x.suffix in
    let t =
    both_and (between leg.from leg.to h) (eqb h.tail.0 a && eqb h.head.0 h.head.0) k.on_leg
    (both_and (eqb h.tail.0 a) (eqb h.head.0 h.head.0) (eq-eqb h.tail.0 a k.tail) (eq-eqb h.head.0 h.head.0 refl))
    in
    subst (λ (q : Route). q.total ≡ total_over S.hops (leg ∷ rest) q.addresses) (sym x.made)
    (ap₂ ◌+◌
    (sym (step_cost S.hops s leg a h.head.0 h k.recorded t))
    (suffix-total S s rest (suc i) h.head.0 x.further x.suffix)
    ∙ sym (further-total S.hops leg rest a h.head.0 x.further.addresses b.0 b.1))

-- ---- how large it can be

pub suffix-total-bound
    : (S : Search) (most : ℕ)
    → ((h : Hop) → Memᴰ h S.hops → h.cost ≤ most)
    → (rest : List Leg) (i a : ℕ) (r : Route)
    → Memᴰ r (suffixes S rest i a)
    → r.total ≤ length rest * most
suffix-total-bound S most c [] i a r m = let e = ap (λ (q : Route). q.total) (suffixes-end S i a m).1 in omega arith
suffix-total-bound S most c (leg ∷ rest) i a r m =
    let x = suffixes_step S leg rest i a m in
    let e = ap (λ (q : Route). q.total) x.made in
    let k = c x.hop (hops_from_mem S leg a x.leaving).recorded in
    let l = suffix-total-bound S most c rest (suc i) x.hop.head.0 x.further x.suffix in
    omega (arith, suc-mul (length rest) most)
