-- The suffixes of paths that `suffixes` enumerates: how each is made of a first hop and a shorter suffix, and what they are in plain words, `IsSuffix`:
-- the clauses of `IsPath` from a place on. By recursion over the legs left.
use mathlib.Core.Path.{◌≡◌, refl, sym, subst, ◌∙◌, ap}
use mathlib.Core.Logic.{◌↔◌}
use mathlib.Core.Bool.{Bool, true, false, ◌&&◌, false≢true}
use mathlib.Core.List.Memᴰ
use mathlib.Core.List.{List, [], ◌∷◌, map, Memᴰ}
use Prim.Native.Nat.{ℕ, zero, suc, ◌+◌, ◌≤◌, ◌<◌}
use native.Mathlib.Omega.{arith}
use lib.ListN.{length, get_or}
use lib.Dec.{eqb}
use borrow.Author.Tests.{eqb-true, eq-eqb}
use Rattle.model.specs.declared.Hop.{Hop}
use Rattle.model.specs.Lists.{each}
use Rattle.model.specs.Profile.{between}
use Rattle.model.specs.Request.{Search}
use Rattle.model.specs.Path.{Leg, no_leg, usable, Step, allowed, Route, extended, leaves, hops_from, routes_if, suffixes}
use Rattle.laws.specs.Descent.{ending}
use Rattle.laws.proofs.Tests.{and_both, both_and}
use Rattle.laws.proofs.Lists.{keep_mem, mem_keep, map_mem, mem-map, each_mem, mem_each}

abbrev pub addresses_of : Route → List ℕ
addresses_of r = r.addresses

-- ---- the hops that leave an address

-- what is known of a hop that leaves a on a leg
pub record Leaving (S : Search) (leg : Leg) (a : ℕ) (h : Hop) : Type 0 where
  pub recorded : Memᴰ h S.hops
  pub on_leg : between leg.from leg.to h ≡ true
  pub from : h.from.0 ≡ leg.from
  pub to : h.to.0 ≡ leg.to
  pub tail : h.tail.0 ≡ a
  pub usable : usable S h ≡ true

pub hops_from_mem : (S : Search) (leg : Leg) (a : ℕ) {h : Hop} → Memᴰ h (hops_from S leg a) → Leaving S leg a h
unfolding hops_from
hops_from_mem S leg a {h} m =
    let k = keep_mem (leaves S leg a) S.hops m in
    let b = and_both (between leg.from leg.to h) (eqb h.tail.0 a && usable S h) k.1 in
    let c = and_both (eqb h.tail.0 a) (usable S h) b.1 in
    let d = and_both (eqb h.from.0 leg.from) (eqb h.to.0 leg.to) b.0 in
    record {
      recorded = k.0;
      on_leg = b.0;
      from = eqb-true h.from.0 leg.from d.0;
      to = eqb-true h.to.0 leg.to d.1;
      tail = eqb-true h.tail.0 a c.0;
      usable = c.1;
    }

-- it is a step from a to its head
pub hops_from_step : (S : Search) (leg : Leg) (a : ℕ) {h : Hop} → Memᴰ h (hops_from S leg a) → Step S leg a h.head.0
hops_from_step S leg a {h} m =
    let k = hops_from_mem S leg a m in
    record { crossing = record { hop = h; recorded = k.recorded; on_leg = k.on_leg; tail = k.tail; head = refl }; usable = k.usable }

pub step_hops_from : (S : Search) (leg : Leg) (a b : ℕ) (s : Step S leg a b) → Memᴰ s.crossing.hop (hops_from S leg a)
unfolding hops_from
step_hops_from S leg a b s =
    let c = s.crossing in
    let h = c.hop in
    mem_keep (leaves S leg a) c.recorded
    (both_and (between leg.from leg.to h) (eqb h.tail.0 a && usable S h) c.on_leg
    (both_and (eqb h.tail.0 a) (usable S h) (eq-eqb h.tail.0 a c.tail) s.usable))

-- ---- how a suffix is made

routes_if_mem : (b : Bool) (rs : List Route) {r : Route} → Memᴰ r (routes_if b rs) → (b ≡ true) × Memᴰ r rs
routes_if_mem true rs m = (refl, m)
routes_if_mem false rs m = absurd (Memᴰ.not-nil m)

mem_routes_if : (b : Bool) (rs : List Route) {r : Route} → b ≡ true → Memᴰ r rs → Memᴰ r (routes_if b rs)
mem_routes_if true rs t m = m
mem_routes_if false rs t m = absurd (false≢true t)

-- with no leg left a suffix is its one address
pub suffixes-end : (S : Search) (i a : ℕ) {r : Route} → Memᴰ r (suffixes S [] i a) → (allowed S i a ≡ true) × (r ≡ ending a)
unfolding suffixes
suffixes-end S i a m = let k = routes_if_mem (allowed S i a) (ending a ∷ []) m in (k.0, Memᴰ.eq_of_singleton k.1)

pub end-suffixes : (S : Search) (i a : ℕ) → allowed S i a ≡ true → Memᴰ (ending a) (suffixes S [] i a)
unfolding suffixes
end-suffixes S i a t = mem_routes_if (allowed S i a) (ending a ∷ []) t (Memᴰ.head refl)

-- the suffixes from a at place i that begin with the hop h, over the legs that are left behind it
abbrev pub behind : Search → List Leg → ℕ → ℕ → Hop → List Route
behind S rest i a h = map (extended a h) (suffixes S rest (suc i) h.head.0)

-- the route r is a first hop from a, and a suffix from that hop's head over the legs that are left then
pub record Extends (S : Search) (leg : Leg) (rest : List Leg) (i a : ℕ) (r : Route) : Type 0 where
  pub place : allowed S i a ≡ true
  pub hop : Hop
  pub leaving : Memᴰ hop (hops_from S leg a)
  pub further : Route
  pub suffix : Memᴰ further (suffixes S rest (suc i) hop.head.0)
  pub made : r ≡ extended a hop further

pub suffixes_step : (S : Search) (leg : Leg) (rest : List Leg) (i a : ℕ) {r : Route} → Memᴰ r (suffixes S (leg ∷ rest) i a) → Extends S leg rest i a r
unfolding suffixes
suffixes_step S leg rest i a m =
    let k = routes_if_mem (allowed S i a) (each (behind S rest i a) (hops_from S leg a)) m in
    let e = each_mem (behind S rest i a) (hops_from S leg a) k.1 in
    let q = map_mem (extended a e.0) (suffixes S rest (suc i) e.0.head.0) e.2 in
    record { place = k.0; hop = e.0; leaving = e.1; further = q.0; suffix = q.1; made = q.2 }

pub step_suffixes : (S : Search) (leg : Leg) (rest : List Leg) (i a : ℕ) {r : Route} → Extends S leg rest i a r → Memᴰ r (suffixes S (leg ∷ rest) i a)
unfolding suffixes
step_suffixes S leg rest i a x =
    Memᴰ.cast x.made
    (mem_routes_if (allowed S i a) (each (behind S rest i a) (hops_from S leg a)) x.place
    (mem_each (behind S rest i a) x.leaving (mem-map (extended a x.hop) x.suffix)))

-- a suffix from a begins with a
pub suffix_begins : (S : Search) (rest : List Leg) (i a : ℕ) (r : Route) → Memᴰ r (suffixes S rest i a) → (more : List ℕ) × (r.addresses ≡ a ∷ more)
suffix_begins S [] i a r m = ([], ap addresses_of (suffixes-end S i a m).1)
suffix_begins S (leg ∷ rest) i a r m = let x = suffixes_step S leg rest i a m in (x.further.addresses, ap addresses_of x.made)

-- it has one address more than there are legs left
pub suffix_length : (S : Search) (rest : List Leg) (i a : ℕ) (r : Route) → Memᴰ r (suffixes S rest i a) → length r.addresses ≡ suc (length rest)
suffix_length S [] i a r m = ap (λ (q : Route). length q.addresses) (suffixes-end S i a m).1
suffix_length S (leg ∷ rest) i a r m =
    let x = suffixes_step S leg rest i a m in
    ap (λ (q : Route). length q.addresses) x.made ∙ ap suc (suffix_length S rest (suc i) x.hop.head.0 x.further x.suffix)

-- ---- a suffix in plain words

-- As many addresses as legs left and one more, the first of them a; each step a usable hop record of its leg; each address allowed at its place, the first at
-- place i. (`allowed` says what `IsPath` asks at a place: nothing excluded, the entry constraint kept, the destination at the end.)
pub record IsSuffix (S : Search) (rest : List Leg) (i a : ℕ) (p : List ℕ) : Type 0 where
  pub long : length p ≡ suc (length rest)
  pub start : get_or p 0 0 ≡ a
  pub steps : (j : ℕ) → j < length rest → Step S (get_or rest j no_leg) (get_or p j 0) (get_or p (suc j) 0)
  pub places : (j : ℕ) → j ≤ length rest → allowed S (i + j) (get_or p j 0) ≡ true

-- ---- every suffix enumerated is one

at_place : (S : Search) {i j : ℕ} (a : ℕ) → i ≡ j → allowed S i a ≡ true → allowed S j a ≡ true
at_place S a e t = subst (λ (k : ℕ). allowed S k a ≡ true) e t

end_is : (S : Search) (i a : ℕ) → allowed S i a ≡ true → IsSuffix S [] i a (a ∷ [])
end_is S i a t = record { long = refl; start = refl; steps = λ j l. absurd (omega arith); places = places }
  where
    places : (j : ℕ) → j ≤ 0 → allowed S (i + j) (get_or (a ∷ []) j 0) ≡ true
    places zero l = at_place S a (omega arith) t
    places (suc j) l = absurd (omega arith)

step_is
    : (S : Search) (leg : Leg) (rest : List Leg) (i a b : ℕ) (p : List ℕ)
    → allowed S i a ≡ true
    → Step S leg a b
    → IsSuffix S rest (suc i) b p
    → IsSuffix S (leg ∷ rest) i a (a ∷ p)
step_is S leg rest i a b p t s x = record { long = ap suc x.long; start = refl; steps = steps; places = places }
  where
    steps : (j : ℕ) → j < suc (length rest) → Step S (get_or (leg ∷ rest) j no_leg) (get_or (a ∷ p) j 0) (get_or p j 0)
    steps zero l = subst (λ (c : ℕ). Step S leg a c) (sym x.start) s
    steps (suc j) l = x.steps j (omega arith)

    places : (j : ℕ) → j ≤ suc (length rest) → allowed S (i + j) (get_or (a ∷ p) j 0) ≡ true
    places zero l = at_place S a (omega arith) t
    places (suc j) l = at_place S (get_or p j 0) (omega arith) (x.places j (omega arith))

pub suffix_sound : (S : Search) (rest : List Leg) (i a : ℕ) (r : Route) → Memᴰ r (suffixes S rest i a) → IsSuffix S rest i a r.addresses
suffix_sound S [] i a r m =
    let k = suffixes-end S i a m in
    subst (λ (q : Route). IsSuffix S [] i a q.addresses) (sym k.1) (end_is S i a k.0)
suffix_sound S (leg ∷ rest) i a r m =
    let x = suffixes_step S leg rest i a m in
    subst (λ (q : Route). IsSuffix S (leg ∷ rest) i a q.addresses) (sym x.made)
    (step_is S leg rest i a x.hop.head.0 x.further.addresses x.place (hops_from_step S leg a x.leaving)
    (suffix_sound S rest (suc i) x.hop.head.0 x.further x.suffix))

-- ---- every suffix is enumerated

-- what is left of a suffix behind its first step
tail-is
    : (S : Search) (leg : Leg) (rest : List Leg) (i a b : ℕ) (p : List ℕ)
    → IsSuffix S (leg ∷ rest) i a (b ∷ p)
    → IsSuffix S rest (suc i) (get_or p 0 0) p
tail-is S leg rest i a b p x =
    record {
      long = let l = x.long in omega arith;
      start = refl;
      steps = λ j l. x.steps (suc j) (omega arith);
      places = λ j l. at_place S (get_or p j 0) (omega arith) (x.places (suc j) (omega arith));
    }

pub suffix-complete
    : (S : Search) (rest : List Leg) (i a : ℕ) (p : List ℕ)
    → IsSuffix S rest i a p
    → (r : Route) × Memᴰ r (suffixes S rest i a) × (p ≡ r.addresses)
suffix-complete S [] i a [] x = absurd (let l = x.long in omega arith)
suffix-complete S [] i a (b ∷ []) x = (
  ending a,
  end-suffixes S i a (subst (λ (c : ℕ). allowed S i c ≡ true) x.start (at_place S b (omega arith) (x.places 0 (omega arith)))),
  λ j. x.start j ∷ [],
)
suffix-complete S [] i a (b ∷ c ∷ p) x = absurd (let l = x.long in omega arith)
suffix-complete S (leg ∷ rest) i a [] x = absurd (let l = x.long in omega arith)
suffix-complete S (leg ∷ rest) i a (b ∷ p) x =
    let s = subst (λ (c : ℕ). Step S leg c (get_or p 0 0)) x.start (x.steps 0 (omega arith)) in
    let t = suffix-complete S rest (suc i) (get_or p 0 0) p (tail-is S leg rest i a b p x) in (
      extended a s.crossing.hop t.0,
      step_suffixes S leg rest i a
          (record {
            place = subst (λ (c : ℕ). allowed S i c ≡ true) x.start (at_place S b (omega arith) (x.places 0 (omega arith)));
            hop = s.crossing.hop;
            leaving = step_hops_from S leg a (get_or p 0 0) s;
            further = t.0;
            suffix = subst (λ (c : ℕ). Memᴰ t.0 (suffixes S rest (suc i) c)) (sym s.crossing.head) t.1;
            made = refl;
          }),
      λ j. x.start j ∷ t.2 j,
    )

-- the address lists of `suffixes` are exactly the suffixes
pub suffixes_exact : (S : Search) (rest : List Leg) (i a : ℕ) (p : List ℕ) → Memᴰ p (map addresses_of (suffixes S rest i a)) ↔ IsSuffix S rest i a p
suffixes_exact S rest i a p = (
  λ m.
      let r = map_mem addresses_of (suffixes S rest i a) m in
      subst (IsSuffix S rest i a) (sym r.2) (suffix_sound S rest i a r.0 r.1),
  λ x.
      let r = suffix-complete S rest i a p x in
      Memᴰ.cast r.2 (mem-map addresses_of r.1),
)
