-- A list of bytes of which some are written anew (`lib.Seq`'s paste): the bytes before and behind them stand, and so do numbers and parts that lie apart from them.
-- By taking off what stands before, or before and with them.
use mathlib.Core.Path.{◌≡◌, sym, ap, ◌∙◌}
use mathlib.Core.Logic.{◌⊎◌, inl, inr, ⊎_elim}
use mathlib.Core.List.{List, ◌++◌, append_assoc}
use Prim.Native.Nat.{ℕ, ◌+◌, ◌-◌, ◌≤◌, ◌<◌, min}
use native.Mathlib.Omega.{arith}
use lib.ListN.{length, get_or, take, drop, length-take, length-drop}
use lib.Seq.{paste, length-paste, length-take-le, take_at, drop_at, drop-paste, get_or-take, get_or-drop, ext_get_or}
use Rattle.model.specs.Bytes.{number, part}
use Rattle.laws.proofs.Numbers.{number_alike}

-- a part depends only on its own bytes and on how many there are
pub part_alike : (n : ℕ) (s t : List ℕ) (at : ℕ) → length s ≡ length t → ((i : ℕ) → i < n → get_or s (at + i) 0 ≡ get_or t (at + i) 0) → part s at n ≡ part t at n
part_alike n s t at long same =
    let first : length (part s at n) ≡ min n (length s - at) = length-take n (drop at s) ∙ ap (min n) (length-drop at s) in
    let second : length (part t at n) ≡ min n (length t - at) = length-take n (drop at t) ∙ ap (min n) (length-drop at t) in
    ext_get_or 0 (part s at n) (part t at n)
    (first ∙ ap (λ (k : ℕ). min n (k - at)) long ∙ sym second)
    (λ i h.
    let inside : i < n = omega arith in
    get_or-take n (drop at s) i 0 inside
    ∙ get_or-drop at s i 0
    ∙ same i inside
    ∙ sym (get_or-take n (drop at t) i 0 inside ∙ get_or-drop at t i 0))

module _ (s new : List ℕ) (at n : ℕ) (fits : at + n ≤ length s) (enough : n ≤ length new) where
  front : take at (paste s at new n) ≡ take at s
  front =
      ap (take at) (append_assoc (take at s) (take n new) (drop (at + n) s))
      ∙ take_at (take at s) (take n new ++ drop (at + n) s) at (length-take-le at s (omega arith))

  -- what is written stands there
  pub rewritten_there : drop at (paste s at new n) ≡ take n new ++ drop (at + n) s
  rewritten_there =
      ap (drop at) (append_assoc (take at s) (take n new) (drop (at + n) s))
      ∙ drop_at (take at s) (take n new ++ drop (at + n) s) at (length-take-le at s (omega arith))

  -- one byte before or behind it
  pub byte_stands : (i : ℕ) → (i < at) ⊎ (at + n ≤ i) → get_or (paste s at new n) i 0 ≡ get_or s i 0
  byte_stands i apart =
      ⊎_elim
      (λ (h : i < at).
      sym (get_or-take at (paste s at new n) i 0 h) ∙ ap (λ (l : List ℕ). get_or l i 0) front ∙ get_or-take at s i 0 h)
      (λ (h : at + n ≤ i).
      let place : at + n + (i - (at + n)) ≡ i = omega arith in
      ap (λ (k : ℕ). get_or (paste s at new n) k 0) (sym place)
      ∙ sym (get_or-drop (at + n) (paste s at new n) (i - (at + n)) 0)
      ∙ ap (λ (l : List ℕ). get_or l (i - (at + n)) 0) (drop-paste s at new n (omega arith) enough)
      ∙ get_or-drop (at + n) s (i - (at + n)) 0
      ∙ ap (λ (k : ℕ). get_or s k 0) place)
      apart

  bytes_stand : (p w : ℕ) → (p + w ≤ at) ⊎ (at + n ≤ p) → (i : ℕ) → i < w → get_or (paste s at new n) (p + i) 0 ≡ get_or s (p + i) 0
  bytes_stand p w apart i h =
      byte_stands (p + i) (⊎_elim (λ (l : p + w ≤ at). inl (omega arith)) (λ (l : at + n ≤ p). inr (omega arith)) apart)

  pub number_stands : (w p : ℕ) → (p + w ≤ at) ⊎ (at + n ≤ p) → number w (paste s at new n) p ≡ number w s p
  number_stands w p apart = number_alike w (paste s at new n) s p p (bytes_stand p w apart)

  pub part_stands : (w p : ℕ) → (p + w ≤ at) ⊎ (at + n ≤ p) → part (paste s at new n) p w ≡ part s p w
  part_stands w p apart = part_alike w (paste s at new n) s p (length-paste s at new n fits enough) (bytes_stand p w apart)
