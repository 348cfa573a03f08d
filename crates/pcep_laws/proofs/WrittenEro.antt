-- The body of an ERO that is written for addresses passes, and its addresses are those: each is an IPv4 subobject of 8 bytes, which a domain list's entry
-- constraint is too. By the laws of things in a row.
use Prim.Native.Nat.{ℕ, suc, ◌+◌, ◌-◌, ◌≤◌, ◌<◌}
use native.Mathlib.Omega.{arith}
use mathlib.Core.Path.{◌≡◌, ap, ◌∙◌}
use mathlib.Core.List.{List, [], ◌∷◌, ◌++◌, map, map-id}
use lib.ListN.{length, get_or}
use borrow.Author.Tests.{le-leb}
use Rattle.model.specs.Verdict.{Pass}
use Rattle.model.specs.declared.ListKind.TheVariants.{Include}
use Rattle.model.specs.Lists.{each}
use Rattle.model.specs.Bytes.{bytes_of}
use Rattle.model.specs.Subobject as Subobject
use Rattle.laws.proofs.Numbers.{number_shift, number-bytes_of}
use Rattle.laws.proofs.InARow.{Stands, stands_inside, stands_get_or, stands_first, stands_number, Each, Row, in_a_row, checked_row, places_row, read-row}
use Rattle.laws.proofs.Forms.{plain_of}
use Rattle.laws.proofs.Subobjects.{right-standing}
use Rattle.laws.proofs.WrittenForm.{pin_encoded}
use Rattle.pcep_model.specs.Pcrep.{step_verdict, ero_verdict, address_at, addresses_in, written_step}

-- an address is a u32
abbrev pub Word : ℕ → Type 0
Word a = a < 4294967296

pub each_word : (s : List ℕ) → ((i : ℕ) → get_or s i 0 < 4294967296) → Each Word s
each_word [] h = tt
each_word (a ∷ s) h = (h 0, each_word s (λ i. h (suc i)))

-- ---- one subobject, wherever it stands

module _ (e : List ℕ) where
  step_passes : (at a : ℕ) → Stands e at (written_step a) → Word a → step_verdict e at ≡ Pass
  unfolding step_verdict bytes_of
  step_passes at a h w =
      let inside : at + 4 ≤ length e = omega (arith, stands_inside e at (written_step a) h) in
      rw (le-leb (at + 4) (length e) inside, stands_first e at (written_step a) h) (plain_of Include e (length e) at (right-standing Include e (written_step a) (length e) at h (stands_inside e at (written_step a) h) (pin_encoded a w).right))

  onward : (at a : ℕ) → Stands e at (written_step a) → Word a → Subobject.after_subobject e at ≡ at + length (written_step a)
  unfolding bytes_of
  onward at a h w = ap (λ (n : ℕ). at + n) (stands_get_or e at (written_step a) h 1)

  address_read : (at a : ℕ) → Stands e at (written_step a) → Word a → address_at e at ≡ a
  unfolding bytes_of
  address_read at a h w =
      stands_number e at (written_step a) h 4 2
      ∙ number_shift 4 (1 ∷ 8 ∷ []) (bytes_of 4 a ++ (32 ∷ 0 ∷ h.after)) 0
      ∙ number-bytes_of 4 a (32 ∷ 0 ∷ h.after) w

long : (a : ℕ) → Word a → 0 < length (written_step a)
unfolding bytes_of
long a w = omega arith

-- ---- a whole body

module _ (s : List ℕ) (fits : Each Word s) where
  row : Row written_step (each written_step s) 0 s
  row = in_a_row written_step [] s

  pub ero-passes : ero_verdict (each written_step s) ≡ Pass
  ero-passes =
      let e = each written_step s in
      checked_row written_step e Word (step_verdict e) (Subobject.after_subobject e) (step_passes e) (onward e) long (length e - 0) 0 s row fits

  pub ero-read : addresses_in (each written_step s) ≡ s
  unfolding addresses_in
  ero-read =
      let e = each written_step s in
      ap (map (address_at e)) (places_row written_step e Word (step_verdict e) (Subobject.after_subobject e) (step_passes e) (onward e) long (length e - 0) 0 s row fits (omega arith))
      ∙ read-row written_step e Word (address_at e) (λ (a : ℕ). a) (address_read e) 0 s row fits
      ∙ map-id s
