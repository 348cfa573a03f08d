-- A list put over the start of one part of a longer list: what the longer list holds up to the part's end, and behind it. From the library's facts on copies.
use Prim.Native.Nat.{ℕ, ◌+◌, ◌≤◌}
use native.Mathlib.Omega.{arith}
use mathlib.Core.Path.{◌≡◌, refl, sym, ap, ◌∙◌}
use mathlib.Core.List.{List, ◌++◌, append_assoc}
use lib.ListN.{length, take, drop, take-append-drop, length-append, length-drop}
use lib.Seq.{length-take-le, take_at, drop_at, drop-drop, drop-append-le, paste}
use Rattle.model.specs.Lists.{over}
use Rattle.laws.proofs.Lists.{over-length}

module _ (w part : List ℕ) (s : ℕ) (f : length w ≤ s) (h : s ≤ length part) where
  -- a list put over the start, where the start alone is looked at
  over-part : over w part ≡ over w (take s part) ++ drop s part
  unfolding over
  over-part =
      ap (λ (l : List ℕ). w ++ drop (length w) l) (sym (take-append-drop s part))
      ∙ ap (λ (l : List ℕ). w ++ l) (drop-append-le (length w) (take s part) (drop s part) (omega (arith, length-take-le s part h)))
      ∙ sym (append_assoc w (drop (length w) (take s part)) (drop s part))

module _ (old vs : List ℕ) (at n s : ℕ) (h : at + s ≤ length old) (f : n ≤ s) (g : n ≤ length vs) where
  abbrev B : List ℕ
  B = drop at old

  abbrev w : List ℕ
  w = take n vs

  abbrev head : List ℕ
  head = take at old ++ over w (take s B)

  w-long : length w ≡ n
  w-long = length-take-le n vs g

  B-long : s ≤ length B
  B-long = rw length-drop (omega arith)

  pasted : paste old at vs n ≡ head ++ drop s B
  unfolding over
  pasted =
      append_assoc (take at old) w (drop (at + n) old)
      ∙ ap (λ (l : List ℕ). take at old ++ (w ++ l)) (sym (drop-drop n at old) ∙ ap (λ (k : ℕ). drop k B) (sym w-long))
      ∙ ap (λ (l : List ℕ). take at old ++ l) (over-part w B s (omega (arith, w-long)) B-long)
      ∙ sym (append_assoc (take at old) (over w (take s B)) (drop s B))

  head-long : length head ≡ at + s
  head-long =
      length-append (take at old) (over w (take s B))
      ∙ rw (length-take-le at old (omega arith), over-length w (take s B) (omega (arith, w-long, length-take-le s B B-long)), length-take-le s B B-long) refl

  pub pasted_take : take (at + s) (paste old at vs n) ≡ take at old ++ over (take n vs) (take s (drop at old))
  pasted_take = ap (take (at + s)) pasted ∙ take_at head (drop s B) (at + s) head-long

  pub pasted_drop : drop (at + s) (paste old at vs n) ≡ drop s (drop at old)
  pasted_drop = ap (drop (at + s)) pasted ∙ drop_at head (drop s B) (at + s) head-long
