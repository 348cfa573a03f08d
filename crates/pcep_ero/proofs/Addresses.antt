-- An ERO's body of right form: a step is 8 bytes, so the walk goes on by 8, and the addresses stand at every eighth byte. From the laws of walks.
use Rattle.std.specs.Prelude.{Err}
use mathlib.Core.Path.{◌≡◌, sym, ap, subst, ◌∙◌}
use mathlib.Core.Logic.{⊎_elim}
use mathlib.Core.Bool.{true, false, not, ◌&&◌}
use mathlib.Core.List.{List, [], ◌∷◌, map}
use Prim.Native.Nat.{ℕ, zero, suc, ◌+◌, ◌*◌, ◌≤◌, ◌<◌}
use native.Mathlib.Nat.{zero-add}
use native.Mathlib.Omega.{arith}
use lib.Dec.{eqb, leb, ltb}
use lib.ListN.{length, get_or}
use borrow.Author.Tests.{eqb-true, ltb-true, ltb-false, le-leb, not-false}
use Rattle.model.specs.declared.ListKind.TheVariants.{Include}
use Rattle.model.specs.declared.Refusal.{Refusal}
use Rattle.model.specs.Verdict.{Verdict, Pass, refuse_if}
use Rattle.model.specs.Along.{checked_from, places_from}
use Rattle.model.specs.Subobject.{type_at, length_at, area_length_at, plain_verdict, after_subobject}
use Rattle.laws.proofs.Tests.{decide, and-false}
use Rattle.laws.proofs.Turns.{and_then_pass, refuse_if_pass}
use Rattle.laws.proofs.Along as Along
use Rattle.laws.proofs.Walk.{Right, right-plain}
use Rattle.pcep_model.specs.Pcrep.{step_verdict, ero_verdict, address_at, addresses_in}
use Rattle.pcep_ero.proofs.Steps.{fits_1}

-- what a right subobject says: it lies in the body, and has 8 bytes
pub record Eight (e : List ℕ) (at : ℕ) : Type 0 where
  pub size : length_at e at ≡ 8
  pub whole : at + 8 ≤ length e

-- addresses from an offset on stand at every eighth byte, up to the end
record ByEight (e : List ℕ) (at : ℕ) (addresses : List ℕ) : Type 0 where
  pub sized : length e ≡ at + 8 * length addresses
  pub stands : (i : ℕ) → i < length addresses → get_or addresses i 0 ≡ address_at e (at + 8 * i)

none_by_eight : (e : List ℕ) (at : ℕ) → length e ≡ at → ByEight e at []
none_by_eight e at h = record { sized = omega arith; stands = λ i l. absurd (omega arith) }

one_by_eight : (e : List ℕ) (at : ℕ) (rest : List ℕ) → ByEight e (at + 8) rest → ByEight e at (address_at e at ∷ rest)
one_by_eight e at rest r = record { sized = omega (arith, r.sized); stands = found } where
  found : (i : ℕ) → i < suc (length rest) → get_or (address_at e at ∷ rest) i 0 ≡ address_at e (at + 8 * i)
  found zero h = let same : at ≡ at + 8 * 0 = omega arith in ap (address_at e) same
  found (suc i) h = let same : at + 8 + 8 * i ≡ at + 8 * suc i = omega arith in r.stands i (omega arith) ∙ ap (address_at e) same

module _ (e : List ℕ) where
  pub eight : (at : ℕ) → step_verdict e at ≡ Pass → Eight e at
  unfolding step_verdict
  eight at p =
      let both = (and_then_pass (refuse_if (leb (at + 4) (length e) && not (eqb (type_at e at) 1)) 24 at) (plain_verdict Include e (length e) at)).0 p in
      let r : Right Include e (length e) at = right-plain Include e (length e) at both.1 in
      let head : leb (at + 4) (length e) ≡ true = le-leb (at + 4) (length e) r.head in
      let other = and-false (leb (at + 4) (length e)) (not (eqb (type_at e at) 1)) ((refuse_if_pass _ 24 at).0 both.0) head in
      let one : type_at e at ≡ 1 = eqb-true (type_at e at) 1 (not-false (eqb (type_at e at) 1) other) in
      let size : length_at e at ≡ 8 = eqb-true (length_at e at) 8 (sym (fits_1 (area_length_at e at) (length_at e at)) ∙ rw one at r.fits) in
      record { size = size; whole = omega (arith, r.whole) }

  pub further : (at : ℕ) → step_verdict e at ≡ Pass → at < after_subobject e at
  further at p = omega (arith, (eight at p).size)

  goes_on : (at : ℕ) → step_verdict e at ≡ Pass → after_subobject e at ≡ at + 8
  goes_on at p = ap (λ (n : ℕ). at + n) (eight at p).size

  -- what is left of the body from an offset on
  abbrev pub verdict_left : ℕ → Verdict
  verdict_left at = checked_from (step_verdict e) (after_subobject e) (length e) at

  addresses_left : ℕ → List ℕ
  addresses_left at = map (address_at e) (places_from (after_subobject e) (length e) at)

  pub verdict-end : (at : ℕ) → length e ≤ at → verdict_left at ≡ Pass
  verdict-end = Along.checked_end (after_subobject e) (length e) (step_verdict e) further

  module _ (at : ℕ) (h : at < length e) where
    pub verdict-refused : (r : Refusal) → step_verdict e at ≡ Err r → verdict_left at ≡ Err r
    verdict-refused = Along.checked_refused (after_subobject e) (length e) (step_verdict e) further at h

    pub verdict_next : step_verdict e at ≡ Pass → verdict_left at ≡ verdict_left (at + 8)
    verdict_next p = Along.checked_next (after_subobject e) (length e) (step_verdict e) further at h p ∙ ap verdict_left (goes_on at p)

    module _ (p : verdict_left at ≡ Pass) where
      right_here : step_verdict e at ≡ Pass
      right_here = Along.right_here (after_subobject e) (length e) (step_verdict e) further at h p

      right_next : verdict_left (at + 8) ≡ Pass
      right_next = sym (verdict_next right_here) ∙ p

      addresses_next : addresses_left at ≡ address_at e at ∷ addresses_left (at + 8)
      unfolding addresses_left
      addresses_next =
          ap (map (address_at e)) (Along.places_next (after_subobject e) (length e) (step_verdict e) further at h p)
          ∙ ap (λ (n : ℕ). address_at e at ∷ addresses_left n) (goes_on at right_here)

  end_by_eight : (at : ℕ) → length e ≡ at → ByEight e at (addresses_left at)
  unfolding addresses_left
  end_by_eight at h =
      subst (ByEight e at) (sym (ap (map (address_at e)) (Along.places-end (after_subobject e) (length e) (step_verdict e) further at (omega arith)))) (none_by_eight e at h)

  left_by_eight : (n at : ℕ) → length e ≤ at + n → at ≤ length e → verdict_left at ≡ Pass → ByEight e at (addresses_left at)
  left_by_eight zero at f h p = end_by_eight at (omega arith)
  left_by_eight (suc n) at f h p =
      ⊎_elim
      (λ (t : ltb at (length e) ≡ true).
      let l = ltb-true at (length e) t in
      subst (ByEight e at) (sym (addresses_next at l p))
      (one_by_eight e at (addresses_left (at + 8))
      (left_by_eight n (at + 8) (omega arith) (eight at (right_here at l p)).whole (right_next at l p))))
      (λ (t : ltb at (length e) ≡ false).
      let l = ltb-false at (length e) t in
      end_by_eight at (omega arith))
      (decide (ltb at (length e)))

  -- the addresses of a body of right form
  module _ (p : ero_verdict e ≡ Pass) where
    addresses_by_eight : ByEight e 0 (addresses_in e)
    unfolding addresses_in addresses_left
    addresses_by_eight = left_by_eight (length e) 0 (omega arith) (omega arith) p

    -- each has 8 bytes
    pub eight_each : length e ≡ 8 * length (addresses_in e)
    eight_each = omega (arith, addresses_by_eight.sized)

    pub address_stands : (i : ℕ) → i < length (addresses_in e) → get_or (addresses_in e) i 0 ≡ address_at e (8 * i)
    address_stands i h = addresses_by_eight.stands i h ∙ ap (address_at e) (zero-add (8 * i))
