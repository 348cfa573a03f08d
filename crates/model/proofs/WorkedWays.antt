-- What is no path and no way on profile W, each for the sake of one clause of `IsWay` alone: bandwidth, an entry constraint that the entry itself has to keep, an excluded
-- domain, an excluded entry, and both by an EXRS.
use Rattle.std.specs.Prelude.{ℕ, ◌≡◌, refl, Bool, true, false, ◌&&◌, ◌||◌}
use Rattle.std.proofs.Common.{arith, sym, subst, ◌∙◌, true≢false, eq-eqb}
use Rattle.std.proofs.lemmas.Bool.{false≢true}
use mathlib.Core.List.{List, [], ◌∷◌, Memᴰ}
use Rattle.std.proofs.Math.Option.{Option, none, some}
use Rattle.std.specs.Float.{binary32}
use Rattle.std.specs.Float.Ieee.{of_bits, of_fields, odd, size, span, climb, is_nan}
use Rattle.std.specs.Float.Ieee as Ieee
use Rattle.std.specs.Int.Count.{count_trailing_zeros}
use Rattle.model.specs.declared.Hop.{Hop}
use Rattle.model.specs.declared.Limits.{Limits}
use Rattle.model.specs.declared.Round.TheVariants.{First}
use Rattle.model.specs.Lists.{any, count_from, each, keep}
use Rattle.model.specs.Bytes.{number}
use Rattle.model.specs.Profile.{layout_in, domain_at, domains, hop_at, hops}
use Rattle.model.specs.Along.{places_along}
use Rattle.model.specs.Subobject.{Subobject, prefix, system, named_at, subobjects, carried}
use Rattle.model.specs.Sequence.{stop}
use Rattle.model.specs.Exclusion.{in_force, excluded_domain, excluded_node}
use Rattle.model.specs.Floats.{units, at_least}
use Rattle.model.specs.Request.{Search}
use Rattle.model.specs.Path.{Leg, legs, usable, leg_at, exclusions_at, Step, IsWay, IsPath, leads}
use Rattle.model.proofs.WorkedCases.{profile_w}

-- ---- W's search from S to Z in the first round: domain 2 with an entry constraint or none and some EXRS, exclusions for all places, and the bandwidth asked for

abbrev asks : ℕ → Limits
asks bits = record { bandwidth = of_bits binary32 bits; bound = of_bits binary32 0; bounded = false }

unfoldable pub on_w : Option ℕ → List ℕ → List Subobject → ℕ → Search
on_w pin exrs exclusions bits =
    record {
      domains = domains profile_w;
      hops = hops (layout_in profile_w) profile_w;
      sequence = stop 0 none [] ∷ stop 1 none [] ∷ stop 2 pin exrs ∷ [];
      exclusions = exclusions;
      stretches = [] ∷ [] ∷ in_force First (carried exrs) ∷ [];
      source = 0xc0000201;
      destination = 0xc0000263;
      limits = asks bits;
    }

-- ---- a step is made by a hop record that passes this test

found : {A : Type 0} (p : A → Bool) {x : A} {xs : List A} → Memᴰ x xs → p x ≡ true → any p xs ≡ true
found p {x = x} {xs = []} m t = elim m [ ]
found p {x = x} {xs = y ∷ ys} (Memᴰ.head e) t = left (p y) (any p ys) (subst (λ z. p z ≡ true) e t)
  where
    left : (a b : Bool) → a ≡ true → (a || b) ≡ true
    left true b h = refl
    left false b h = absurd (false≢true h)
found p {x = x} {xs = y ∷ ys} (Memᴰ.tail m) t = right (p y) (any p ys) (found p m t)
  where
    right : (a b : Bool) → b ≡ true → (a || b) ≡ true
    right true b h = refl
    right false b h = h

both : (a b : Bool) → a ≡ true → b ≡ true → (a && b) ≡ true
both true b h k = k
both false b h k = absurd (false≢true h)

step_found : (S : Search) (leg : Leg) (a b : ℕ) → Step S leg a b → any (λ (h : Hop). leads leg a b h && usable S h) S.hops ≡ true
step_found S leg a b s =
    let c = s.crossing in
    found (λ (h : Hop). leads leg a b h && usable S h) c.recorded
    (both _ _ (both _ _ c.on_leg (both _ _ (eq-eqb _ a c.tail) (eq-eqb _ b c.head))) s.usable)

-- ---- the rows

-- no hop record from Q to U has a bandwidth above 100.0
none-wide : any (λ (h : Hop). leads (leg_at (on_w none [] [] 0x42c80001) 1) 0xc000020c 0xc0000216 h && usable (on_w none [] [] 0x42c80001) h) (on_w none [] [] 0x42c80001).hops ≡ false
unfolding on_w profile_w legs layout_in hops hop_at count_from number at_least units of_bits of_fields odd size span climb is_nan Ieee.units count_trailing_zeros
none-wide = refl

-- so SQUZ is no path where a bandwidth just above 100.0 is asked for
pub too_narrow : IsPath (on_w none [] [] 0x42c80001) (0xc0000201 ∷ 0xc000020c ∷ 0xc0000216 ∷ 0xc0000263 ∷ []) → ⊥
unfolding on_w
too_narrow x =
    let W = on_w none [] [] 0x42c80001 in
    true≢false (sym (step_found W (leg_at W 1) 0xc000020c 0xc0000216 (x.steps 1 (omega arith))) ∙ none-wide)

-- where domain 2 is to be entered by U, no way leads on from T, though TZ is a hop of its
pub wrong-entry : IsWay (on_w (some 0xc0000216) [] [] 0x42c80000) 2 0xc0000215 (0xc0000215 ∷ 0xc0000263 ∷ []) → ⊥
unfolding on_w
wrong-entry x = false≢true (x.pins 0 (omega arith))

-- where domain 2 is excluded, none leads on from T either; nor where the entry itself is
abbrev as64498 : Subobject
as64498 = record { offset = 0; top = false; names = system 64498 }

pub domain_excluded : IsWay (on_w none [] (as64498 ∷ []) 0x42c80000) 2 0xc0000215 (0xc0000215 ∷ 0xc0000263 ∷ []) → ⊥
unfolding on_w exclusions_at excluded_domain profile_w domains domain_at count_from number
domain_excluded x = true≢false (x.domains 0 (omega arith))

abbrev entry_t : Subobject
entry_t = record { offset = 0; top = false; names = prefix 0xc0000215 32 }

pub entry_excluded : IsWay (on_w none [] (entry_t ∷ []) 0x42c80000) 2 0xc0000215 (0xc0000215 ∷ 0xc0000263 ∷ []) → ⊥
unfolding on_w exclusions_at excluded_node
entry_excluded x = true≢false (x.nodes 0 (omega arith))

-- nor where an EXRS of domain 2 takes that entry, or the domain
abbrev exrs_t : List ℕ
exrs_t = 0x21 ∷ 0x0c ∷ 0x00 ∷ 0x00 ∷ 0x01 ∷ 0x08 ∷ 0xc0 ∷ 0x00 ∷ 0x02 ∷ 0x15 ∷ 0x20 ∷ 0x01 ∷ []

pub entry-without : IsWay (on_w none exrs_t [] 0x42c80000) 2 0xc0000215 (0xc0000215 ∷ 0xc0000263 ∷ []) → ⊥
unfolding on_w exclusions_at excluded_node carried each subobjects places_along named_at number in_force keep
entry-without x = true≢false (x.nodes 0 (omega arith))

abbrev exrs64498 : List ℕ
exrs64498 = 0x21 ∷ 0x08 ∷ 0x00 ∷ 0x00 ∷ 0x20 ∷ 0x04 ∷ 0xfb ∷ 0xf2 ∷ []

pub domain-without : IsWay (on_w none exrs64498 [] 0x42c80000) 2 0xc0000215 (0xc0000215 ∷ 0xc0000263 ∷ []) → ⊥
unfolding on_w exclusions_at excluded_domain profile_w domains domain_at count_from carried each subobjects places_along named_at number in_force keep
domain-without x = true≢false (x.domains 0 (omega arith))
