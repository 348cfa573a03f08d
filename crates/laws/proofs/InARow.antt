-- Things whose bytes stand one after the other in a list, from an offset up to its end: the walk passes each of them where each is right, their places are
-- the running offsets, and what is read at those places is what is read in the things. For any kind of thing, by recursion on the things.
use Prim.Native.Nat.{ℕ, zero, suc, ◌+◌, ◌≤◌, ◌<◌}
use native.Mathlib.Nat.{add-zero}
use native.Mathlib.Omega.{arith}
use mathlib.Core.Path.{◌≡◌, refl, sym, ap, ap₂, subst₂, ◌∙◌}
use mathlib.Core.Bool.{Bool, true, false}
use mathlib.Core.List.{List, [], ◌∷◌, ◌++◌, map, append-nil, append_assoc}
use lib.ListN.{length, get_or, take, drop, length-append}
use lib.Seq.{get_or-append-add, drop-append-add}
use Rattle.model.specs.Lists.{keep_if, keep, each}
use Rattle.model.specs.Bytes.{number, part}
use Rattle.model.specs.Verdict.{Verdict, Pass, ◌and_then◌}
use Rattle.model.specs.Along.{checked_along, places_along, or_else, first_of}
use Rattle.laws.proofs.Numbers.{number_shift}
use Rattle.laws.proofs.Along.{places-step, no_places, check_step, none_checked}

-- ---- one thing: its bytes stand at an offset, something before them and something after

pub record Stands (s : List ℕ) (at : ℕ) (x : List ℕ) : Type 0 where
  pub before : List ℕ
  pub after : List ℕ
  pub whole : s ≡ before ++ (x ++ after)
  pub offset : at ≡ length before

-- what is read there is read in its bytes and what comes after them
module _ (s : List ℕ) (at : ℕ) (x : List ℕ) (h : Stands s at x) where
  pub stands_inside : at + length x ≤ length s
  stands_inside = omega (arith, h.offset, ap length h.whole, length-append h.before (x ++ h.after), length-append x h.after)

  pub stands_get_or : (i : ℕ) → get_or s (at + i) 0 ≡ get_or (x ++ h.after) i 0
  stands_get_or i = ap₂ (λ (l : List ℕ) (n : ℕ). get_or l (n + i) 0) h.whole h.offset ∙ get_or-append-add h.before (x ++ h.after) i 0

  pub stands_first : get_or s at 0 ≡ get_or (x ++ h.after) 0 0
  stands_first = ap (λ (n : ℕ). get_or s n 0) (sym (add-zero at)) ∙ stands_get_or 0

  pub stands_number : (n i : ℕ) → number n s (at + i) ≡ number n (x ++ h.after) i
  stands_number n i = ap₂ (λ (l : List ℕ) (j : ℕ). number n l (j + i)) h.whole h.offset ∙ number_shift n h.before (x ++ h.after) i

  pub stands_part : (i n : ℕ) → part s (at + i) n ≡ part (x ++ h.after) i n
  stands_part i n =
      ap₂ (λ (l : List ℕ) (j : ℕ). take n (drop (j + i) l)) h.whole h.offset ∙ ap (take n) (drop-append-add h.before (x ++ h.after) i)

-- ---- a row of them

-- something holds of each of a list
abbrev pub Each : {A : Type 0} → (A → Type 0) → List A → Type 0
Each P [] = Unit {0}
Each P (x ∷ xs) = P x × Each P xs

module _ {A : Type 0} (bytes : A → List ℕ) where
  -- where each starts, the first at an offset
  abbrev pub offsets : ℕ → List A → List ℕ
  offsets at [] = []
  offsets at (x ∷ xs) = at ∷ offsets (at + length (bytes x)) xs

  -- where the first that passes a test starts, 0 where none does
  abbrev pub first_at : (A → Bool) → ℕ → List A → ℕ
  first_at t at [] = 0
  first_at t at (x ∷ xs) = or_else (t x) at (first_at t (at + length (bytes x)) xs)

  pub first-none : (t : A → Bool) (at : ℕ) (xs : List A) → Each (λ (x : A). t x ≡ false) xs → first_at t at xs ≡ 0
  first-none t at [] none = refl
  first-none t at (x ∷ xs) none =
      ap (λ (b : Bool). or_else b at (first_at t (at + length (bytes x)) xs)) none.0 ∙ first-none t (at + length (bytes x)) xs none.1

  abbrev pub Row : List ℕ → ℕ → List A → Type 0
  Row s at [] = length s ≤ at
  Row s at (x ∷ xs) = Stands s at (bytes x) × Row s (at + length (bytes x)) xs

  pub in_a_row : (pre : List ℕ) (xs : List A) → Row (pre ++ each bytes xs) (length pre) xs
  unfolding each
  in_a_row pre [] = rw append-nil (omega arith)
  in_a_row pre (x ∷ xs) = (
    record { before = pre; after = each bytes xs; whole = refl; offset = refl },
    subst₂ (λ (s : List ℕ) (at : ℕ). Row s at xs) (append_assoc pre (bytes x) (each bytes xs)) (length-append pre (bytes x)) (in_a_row (pre ++ bytes x) xs),
  )

  module _ (s : List ℕ) (Right : A → Type 0) where
    -- a walk that passes right things and goes on to the end of each
    module _ (check : ℕ → Verdict) (next : ℕ → ℕ)
        (passing : (at : ℕ) (x : A) → Stands s at (bytes x) → Right x → check at ≡ Pass)
        (onward : (at : ℕ) (x : A) → Stands s at (bytes x) → Right x → next at ≡ at + length (bytes x))
        (long : (x : A) → Right x → 0 < length (bytes x)) where
      pub checked_row : (fuel at : ℕ) (xs : List A) → Row s at xs → Each Right xs → checked_along fuel check next (length s) at ≡ Pass
      unfolding checked_along
      checked_row zero at xs w r = refl
      checked_row (suc fuel) at [] w r = none_checked next (length s) check (suc fuel) at w
      checked_row (suc fuel) at (x ∷ xs) w r =
          check_step next (length s) check at fuel (omega (arith, stands_inside s at (bytes x) w.0, long x r.0))
          ∙ ap₂ (λ (v : Verdict) (n : ℕ). v and_then checked_along fuel check next (length s) n) (passing at x w.0 r.0) (onward at x w.0 r.0)
          ∙ checked_row fuel (at + length (bytes x)) xs w.1 r.1

      pub places_row
          : (fuel at : ℕ) (xs : List A) → Row s at xs → Each Right xs → length s ≤ at + fuel → places_along fuel next (length s) at ≡ offsets at xs
      places_row fuel at [] w r h = no_places next (length s) fuel at w
      places_row zero at (x ∷ xs) w r h = absurd (omega (arith, stands_inside s at (bytes x) w.0, long x r.0))
      places_row (suc fuel) at (x ∷ xs) w r h =
          let more : 0 < length (bytes x) = long x r.0 in
          places-step next (length s) at fuel (omega (arith, stands_inside s at (bytes x) w.0))
          ∙ ap {B = List ℕ} (λ (n : ℕ). at ∷ places_along fuel next (length s) n) (onward at x w.0 r.0)
          ∙ ap {B = List ℕ} (λ (later : List ℕ). at ∷ later) (places_row fuel (at + length (bytes x)) xs w.1 r.1 (omega arith))

    -- what is read at each place, where the test of the place is that of the thing
    pub kept_row
        : {B : Type 0} (test : ℕ → Bool) (get : ℕ → B) (t : A → Bool) (value : A → B)
        → ((at : ℕ) (x : A) → Stands s at (bytes x) → Right x → test at ≡ t x)
        → ((at : ℕ) (x : A) → Stands s at (bytes x) → Right x → t x ≡ true → get at ≡ value x)
        → (at : ℕ) (xs : List A) → Row s at xs → Each Right xs
        → map get (keep test (offsets at xs)) ≡ map value (keep t xs)
    unfolding keep
    kept_row test get t value tested got at [] w r = refl
    kept_row {B} test get t value tested got at (x ∷ xs) w r =
        ap (λ (b : Bool). map get (keep_if b at (keep test (offsets (at + length (bytes x)) xs)))) (tested at x w.0 r.0)
        ∙ go (t x) (got at x w.0 r.0) (keep test (offsets (at + length (bytes x)) xs)) (keep t xs)
        (kept_row test get t value tested got (at + length (bytes x)) xs w.1 r.1)
      where
        go
            : (b : Bool) → (b ≡ true → get at ≡ value x) → (places : List ℕ) (things : List A) → map get places ≡ map value things
            → map get (keep_if b at places) ≡ map value (keep_if b x things)
        go true here places things later = λ i. here refl i ∷ later i
        go false here places things later = later

    pub read-row
        : {B : Type 0} (get : ℕ → B) (value : A → B)
        → ((at : ℕ) (x : A) → Stands s at (bytes x) → Right x → get at ≡ value x)
        → (at : ℕ) (xs : List A) → Row s at xs → Each Right xs
        → map get (offsets at xs) ≡ map value xs
    read-row get value got at [] w r = refl
    read-row get value got at (x ∷ xs) w r =
        let later = read-row get value got (at + length (bytes x)) xs w.1 r.1 in
        λ i. got at x w.0 r.0 i ∷ later i

    pub first-row
        : (test : ℕ → Bool) (t : A → Bool)
        → ((at : ℕ) (x : A) → Stands s at (bytes x) → Right x → test at ≡ t x)
        → (at : ℕ) (xs : List A) → Row s at xs → Each Right xs
        → first_of test (offsets at xs) ≡ first_at t at xs
    unfolding first_of
    first-row test t tested at [] w r = refl
    first-row test t tested at (x ∷ xs) w r =
        ap₂ (λ (b : Bool) (later : ℕ). or_else b at later) (tested at x w.0 r.0)
        (first-row test t tested (at + length (bytes x)) xs w.1 r.1)
