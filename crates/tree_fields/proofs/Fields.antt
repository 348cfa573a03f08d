-- A field of the tree's entries copied to a buffer, number by number; and levels, place by place. By the laws of lists written over lists.
use Prim.Native.Nat.{ℕ, zero, suc, ◌+◌, ◌-◌, ◌≤◌, ◌<◌}
use native.Mathlib.Omega.{arith}
use mathlib.Core.Path.{◌≡◌, refl, sym, ap, ap₂, subst, ◌∙◌}
use mathlib.Core.List.{List, [], ◌∷◌, ◌++◌, map}
use lib.ListN.{length, get_or, take, drop, set, length-append, length-map, length-replicate}
use lib.Seq.{paste, take-length, take_all, length-take-le, drop-drop}
use Rattle.model.specs.Lists.{count_from, each, over}
use Rattle.laws.proofs.Lists.{over-length, over-take, over-drop, over_nothing}
use Rattle.tree_levels.proofs.Blocks.{each_next}
use Rattle.buffers.proofs.Copies.{Copied, copied_more}
use Rattle.tree_fields.specs.Fields.{levels_at, levels_of, Places}

-- ---- a list of n numbers of which the code writes one after the other

module _ (f : ℕ → ℕ) where
  -- number i of the first n, each given by f
  mapped_at : (l : List ℕ) (n i : ℕ) → i < n → n ≤ length l → get_or (map f (take n l)) i 0 ≡ f (get_or l i 0)
  mapped_at l zero i h k = absurd (omega arith)
  mapped_at [] (suc n) i h k = absurd (omega arith)
  mapped_at (x ∷ l) (suc n) zero h k = refl
  mapped_at (x ∷ l) (suc n) (suc i) h k = mapped_at l n i (omega arith) (omega arith)

  module _ (l old : List ℕ) (n : ℕ) (inside : n ≤ length l) (room : n ≤ length old) where
    abbrev part : List ℕ
    part = map f (take n l)

    part_length : length part ≡ n
    part_length = length-map (take n l) f ∙ length-take-le n l inside

    module _ (now : List ℕ) (i : ℕ) (c : Copied part old now i) where
      pub part-more : (x : ℕ) → i < n → x ≡ f (get_or l i 0) → Copied part old (set now i x) (i + 1)
      part-more x h e =
          subst (λ (y : ℕ). Copied part old (set now i y) (i + 1)) (mapped_at l n i h inside ∙ sym e)
          (copied_more part old now i c (omega (arith, part_length)) (omega arith))

      pub part-whole : i ≡ n → now ≡ over part old
      part-whole e = c ∙ ap (λ (k : List ℕ). over k old) (take_all i part (omega (arith, part_length)))

-- the numbers as they are
pub map_same : (l : List ℕ) → map (λ (x : ℕ). x) l ≡ l
map_same [] = refl
map_same (x ∷ l) = ap (λ (k : List ℕ). x ∷ k) (map_same l)

-- ---- all places' levels: those of one place more behind the ones written

over_next : (xs ys old : List ℕ) (at n : ℕ) → at ≡ length xs → n ≡ length ys → paste (over xs old) at ys n ≡ over (xs ++ ys) old
unfolding over
over_next xs ys old at n e k =
    let more : length xs + length ys ≡ length (xs ++ ys) = sym (length-append xs ys) in
    ap₂ (λ (a m : ℕ). paste (over xs old) a ys m) e k
    ∙ ap₂ (λ (l r : List ℕ). take (length xs) (over xs old) ++ l ++ r)
    (take-length ys)
    (sym (drop-drop (length ys) (length xs) (over xs old)) ∙ ap (drop (length ys)) (over-drop xs old) ∙ drop-drop (length ys) (length xs) old ∙ ap (λ (m : ℕ). drop m old) more)
    ∙ ap (λ (l : List ℕ). l ++ ys ++ drop (length (xs ++ ys)) old) (over-take xs old)

module _ (places : ℕ) (starts old : List ℕ) (order : Places places starts (length old)) where
  abbrev pub Told : List ℕ → ℕ → Type 0
  Told now i = now ≡ over (levels_of i starts) old

  -- the levels told so far fit
  told_most : (i : ℕ) → i ≤ places → length (levels_of i starts) ≤ length old
  unfolding levels_of each count_from
  told_most zero h = omega arith
  told_most (suc i) h =
      let s = order.start_is i h in
      let a = order.ascends i h in
      let f = order.fits i h in
      let n = ap length (each_next (levels_at starts) i) in
      let m = length-append (levels_of i starts) (levels_at starts i) in
      let k = length-replicate (get_or starts (suc i) 0 - get_or starts i 0) i in
      omega arith

  pub told_none : Told old 0
  unfolding levels_of each count_from
  told_none = sym (over_nothing old)

  pub told-length : (now : List ℕ) (i : ℕ) → Told now i → i ≤ places → length now ≡ length old
  told-length now i t h = ap length t ∙ over-length (levels_of i starts) old (told_most i h)

  pub told-room : (now : List ℕ) (i : ℕ) → Told now i → i < places → (get_or starts i 0 ≤ get_or starts (suc i) 0) × (get_or starts (suc i) 0 ≤ length now)
  told-room now i t h = (order.ascends i h, let n = told-length now i t (omega arith) in omega (arith, order.fits i h))

  pub Told-more
      : (now : List ℕ) (i : ℕ) → Told now i → i < places
      → Told (paste now (get_or starts i 0) (levels_at starts i) (get_or starts (suc i) 0 - get_or starts i 0)) (suc i)
  unfolding levels_of
  Told-more now i t h =
      ap (λ (l : List ℕ). paste l (get_or starts i 0) (levels_at starts i) (get_or starts (suc i) 0 - get_or starts i 0)) t
      ∙ over_next (levels_of i starts) (levels_at starts i) old (get_or starts i 0) (get_or starts (suc i) 0 - get_or starts i 0) (order.start_is i h)
      (sym (length-replicate (get_or starts (suc i) 0 - get_or starts i 0) i))
      ∙ ap (λ (l : List ℕ). over l old) (sym (each_next (levels_at starts) i))
