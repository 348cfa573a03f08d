-- A walk along things that stand one after the other, as a loop meets it: a right thing reaches at least one byte further, so what is left from an offset
-- on doesn't depend on the fuel, and each step is one thing. By recursion on the fuel, for any check, any way on and any end.
use Rattle.std.specs.Prelude.{Ok, Err}
use Prim.Native.Nat.{ℕ, zero, suc, ◌+◌, ◌-◌, ◌≤◌, ◌<◌}
use native.Mathlib.Omega.{arith}
use mathlib.Core.Path.{◌≡◌, refl, sym, ap, subst, ◌∙◌}
use mathlib.Core.Logic.{⊎_elim}
use mathlib.Core.Bool.{Bool, true, false}
use mathlib.Core.List.Memᴰ
use mathlib.Core.List.{List, [], ◌∷◌, Memᴰ}
use lib.Dec.{ltb}
use borrow.Author.Tests.{lt-ltb, le-ltb, ltb-true, ltb-false}
use Rattle.model.specs.declared.Refusal.{Refusal}
use Rattle.model.specs.Verdict.{Verdict, Pass, ◌and_then◌}
use Rattle.model.specs.Along.{checked_along, places_along, checked_from, places_from, or_else, first_of}
use Rattle.laws.proofs.Tests.{decide}
use Rattle.laws.proofs.Turns.{and_then_pass}

after_pass : (v a b : Verdict) → (v ≡ Pass → a ≡ b) → v and_then a ≡ v and_then b
after_pass (Ok _) a b h = h refl
after_pass (Err r) a b h = refl

module _ (next : ℕ → ℕ) (end : ℕ) where
  module _ (at fuel : ℕ) where
    places_choice : Bool → List ℕ
    places_choice b = elim b as (λ (x : Bool). List ℕ) [ true ↦ at ∷ places_along fuel next end (next at) | false ↦ [] ]

    pub places-step : at < end → places_along (suc fuel) next end at ≡ at ∷ places_along fuel next end (next at)
    unfolding places_along places_choice
    places-step h = ap places_choice (lt-ltb at end h)

    places-stop : end ≤ at → places_along (suc fuel) next end at ≡ []
    unfolding places_along places_choice
    places-stop h = ap places_choice (le-ltb at end h)

  pub no_places : (fuel at : ℕ) → end ≤ at → places_along fuel next end at ≡ []
  unfolding places_along
  no_places zero at h = refl
  no_places (suc fuel) at h = places-stop at fuel h

  -- the first place before the end, right or not
  pub places_first : (at : ℕ) → at < end → places_from next end at ≡ at ∷ places_along (end - suc at) next end (next at)
  places_first at h =
      let left : end - at ≡ suc (end - suc at) = omega arith in
      ap (λ (n : ℕ). places_along n next end at) left ∙ places-step at (end - suc at) h

  module _ (check : ℕ → Verdict) where
    module _ (at fuel : ℕ) where
      check_choice : Bool → Verdict
      check_choice b = elim b as (λ (x : Bool). Verdict) [ true ↦ check at and_then checked_along fuel check next end (next at) | false ↦ Pass ]

      pub check_step : at < end → checked_along (suc fuel) check next end at ≡ check at and_then checked_along fuel check next end (next at)
      unfolding checked_along check_choice
      check_step h = ap check_choice (lt-ltb at end h)

      check_stop : end ≤ at → checked_along (suc fuel) check next end at ≡ Pass
      unfolding checked_along check_choice
      check_stop h = ap check_choice (le-ltb at end h)

    pub none_checked : (fuel at : ℕ) → end ≤ at → checked_along fuel check next end at ≡ Pass
    unfolding checked_along
    none_checked zero at h = refl
    none_checked (suc fuel) at h = check_stop at fuel h

    -- where all in turn pass, each does
    pub passed : (fuel at : ℕ) → checked_along fuel check next end at ≡ Pass → (q : ℕ) → Memᴰ q (places_along fuel next end at) → check q ≡ Pass
    unfolding places_along
    passed zero at e q m = absurd (Memᴰ.not-nil m)
    passed (suc fuel) at e q m =
        ⊎_elim
        (λ (t : ltb at end ≡ true).
        let l = ltb-true at end t in
        let both = (and_then_pass (check at) (checked_along fuel check next end (next at))).0 (sym (check_step at fuel l) ∙ e) in
        ⊎_elim
        (λ (here : q ≡ at). subst (λ (x : ℕ). check x ≡ Pass) (sym here) both.0)
        (λ (later : Memᴰ q (places_along fuel next end (next at))). passed fuel (next at) both.1 q later)
        (Memᴰ.cases_cons (subst (Memᴰ q) (places-step at fuel l) m)))
        (λ (f : ltb at end ≡ false). absurd (Memᴰ.not-nil (subst (Memᴰ q) (no_places (suc fuel) at (ltb-false at end f)) m)))
        (decide (ltb at end))

    module _ (further : (at : ℕ) → check at ≡ Pass → at < next at) where
      checked_fuel : (m n at : ℕ) → end ≤ at + m → end ≤ at + n → checked_along m check next end at ≡ checked_along n check next end at
      checked_fuel zero n at h g = none_checked zero at (omega arith) ∙ sym (none_checked n at (omega arith))
      checked_fuel (suc m) zero at h g = none_checked (suc m) at (omega arith) ∙ sym (none_checked zero at (omega arith))
      checked_fuel (suc m) (suc n) at h g =
          ⊎_elim
          (λ (t : ltb at end ≡ true).
          let l = ltb-true at end t in
          check_step at m l
          ∙ after_pass (check at) (checked_along m check next end (next at)) (checked_along n check next end (next at))
          (λ p. let f = further at p in checked_fuel m n (next at) (omega arith) (omega arith))
          ∙ sym (check_step at n l))
          (λ (f : ltb at end ≡ false).
          let l = ltb-false at end f in
          none_checked (suc m) at l ∙ sym (none_checked (suc n) at l))
          (decide (ltb at end))

      places-fuel
          : (m n at : ℕ)
          → end ≤ at + m
          → end ≤ at + n
          → checked_along m check next end at ≡ Pass
          → places_along m next end at ≡ places_along n next end at
      places-fuel zero n at h g e = no_places zero at (omega arith) ∙ sym (no_places n at (omega arith))
      places-fuel (suc m) zero at h g e = no_places (suc m) at (omega arith) ∙ sym (no_places zero at (omega arith))
      places-fuel (suc m) (suc n) at h g e =
          ⊎_elim
          (λ (t : ltb at end ≡ true).
          let l = ltb-true at end t in
          let both = (and_then_pass (check at) (checked_along m check next end (next at))).0 (sym (check_step at m l) ∙ e) in
          let f = further at both.0 in
          places-step at m l
          ∙ ap {B = List ℕ} (λ (later : List ℕ). at ∷ later) (places-fuel m n (next at) (omega arith) (omega arith) both.1)
          ∙ sym (places-step at n l))
          (λ (f : ltb at end ≡ false).
          let l = ltb-false at end f in
          no_places (suc m) at l ∙ sym (no_places (suc n) at l))
          (decide (ltb at end))

      -- ---- what is left from an offset on

      -- with any fuel that is enough
      pub places-whole : (fuel at : ℕ) → end ≤ at + fuel → checked_from check next end at ≡ Pass → places_from next end at ≡ places_along fuel next end at
      places-whole fuel at h e = places-fuel (end - at) fuel at (omega arith) h e

      pub checked_end : (at : ℕ) → end ≤ at → checked_from check next end at ≡ Pass
      checked_end at h = none_checked (end - at) at h

      pub places-end : (at : ℕ) → end ≤ at → places_from next end at ≡ []
      places-end at h = no_places (end - at) at h

      module _ (at : ℕ) (h : at < end) where
        -- the thing there, and then what is left after it
        pub checked_left : checked_from check next end at ≡ check at and_then checked_from check next end (next at)
        checked_left =
            let left : end - at ≡ suc (end - suc at) = omega arith in
            ap (λ (n : ℕ). checked_along n check next end at) left
            ∙ check_step at (end - suc at) h
            ∙ after_pass (check at) (checked_along (end - suc at) check next end (next at)) (checked_from check next end (next at))
            (λ p. let f = further at p in checked_fuel (end - suc at) (end - next at) (next at) (omega arith) (omega arith))

        pub checked_refused : (r : Refusal) → check at ≡ Err r → checked_from check next end at ≡ Err r
        checked_refused r e = checked_left ∙ ap (λ (v : Verdict). v and_then checked_from check next end (next at)) e

        pub checked_next : check at ≡ Pass → checked_from check next end at ≡ checked_from check next end (next at)
        checked_next e = checked_left ∙ ap (λ (v : Verdict). v and_then checked_from check next end (next at)) e

        -- where what is left passes: the thing there passes, what is left after it does, and the places are this one and those after it
        module _ (e : checked_from check next end at ≡ Pass) where
          both : (check at ≡ Pass) × (checked_from check next end (next at) ≡ Pass)
          both = (and_then_pass (check at) (checked_from check next end (next at))).0 (sym checked_left ∙ e)

          pub right_here : check at ≡ Pass
          right_here = both.0

          pub right_next : checked_from check next end (next at) ≡ Pass
          right_next = both.1

          pub places_next : places_from next end at ≡ at ∷ places_from next end (next at)
          places_next =
              let f = further at right_here in
              places_first at h
              ∙ ap {B = List ℕ} (λ (later : List ℕ). at ∷ later)
              (sym (places-fuel (end - next at) (end - suc at) (next at) (omega arith) (omega arith) right_next))

-- ---- what a test finds passes it, and passed the check

module _ (next : ℕ → ℕ) (end : ℕ) (check : ℕ → Verdict) (test : ℕ → Bool) where
  abbrev Found : ℕ → Type 0
  Found x = (check x ≡ Pass) × (test x ≡ true)

  pub found : (fuel at : ℕ) → checked_along fuel check next end at ≡ Pass → (first_of test (places_along fuel next end at) ≡ 0 → ⊥) → Found (first_of test (places_along fuel next end at))
  unfolding first_of places_along
  found zero at e some = absurd (some refl)
  found (suc fuel) at e some =
      ⊎_elim
      (λ (t : ltb at end ≡ true).
      let l = ltb-true at end t in
      let both = (and_then_pass (check at) (checked_along fuel check next end (next at))).0 (sym (check_step next end check at fuel l) ∙ e) in
      let is = ap (first_of test) (places-step next end at fuel l) in
      subst Found (sym is) (here (test at) refl at both.0 (found fuel (next at) both.1) (λ x. some (is ∙ x))))
      (λ (f : ltb at end ≡ false). absurd (some (ap (first_of test) (no_places next end (suc fuel) at (ltb-false at end f)))))
      (decide (ltb at end))
    where
      here
          : (b : Bool) {later : ℕ} → test at ≡ b → (x : ℕ) → check at ≡ Pass → ((later ≡ 0 → ⊥) → Found later) → (or_else (test at) at later ≡ 0 → ⊥) → Found (or_else (test at) at later)
      here true {later} t x pass rest some = subst (λ (b : Bool). Found (or_else b at later)) (sym t) (pass, t)
      here false {later} f x pass rest some = subst (λ (b : Bool). Found (or_else b at later)) (sym f) (rest (λ z. some (ap (λ (b : Bool). or_else b at later) f ∙ z)))
