-- A part of a list put in the place of another (`placed`), cell by cell or as a whole, and a number put into an ascending part. By the laws of `take` and `drop`.
use Prim.Native.Nat.{ℕ, zero, suc, ◌+◌, ◌-◌, ◌≤◌, ◌<◌}
use native.Mathlib.Nat.{add-zero}
use native.Mathlib.Numerals.{add-one}
use native.Mathlib.Omega.{arith}
use Rattle.std.proofs.lemmas.List.{drop-take}
use mathlib.Core.Path.{◌≡◌, refl, sym, ap, ap₂, ◌∙◌}
use mathlib.Core.Bool.{Bool, true, false, ◌&&◌}
use mathlib.Core.List.{List, [], ◌∷◌, ◌++◌, append_assoc}
use lib.ListN.{length, get_or, take, drop, set, length-append, take-append-drop}
use lib.Seq.{slice, paste, paste-zero, length-paste, take-length, take-take, take_at, drop_at, drop-drop, length-take-le, length-slice}
use lib.Dec.{eqb, ltb}
use borrow.Author.Tests.{lt-ltb, le-ltb, eq-eqb, ne_eqb, ltb-true, eqb-true, eqb-false}
use Rattle.model.specs.Lists.{insert_at, insert}
use Rattle.laws.proofs.Tests.{and_both, and-false}
use Rattle.laws.proofs.Ranges.{get_or_slice, slice_cut}
use Rattle.tree_levels.specs.Entries.{FoundNode, placed}

-- ---- neighbouring parts

module _ {A : Type 0} (l : List A) (f m : ℕ) where
  pub take_join : f ≤ m → take f l ++ slice f m l ≡ take m l
  take_join h = ap (λ (r : List A). r ++ slice f m l) (sym (take-take f m l h)) ∙ take-append-drop f (take m l)

-- ---- a number put into a list

-- past smaller ones
pub insert_past : (x : ℕ) (ys zs : List ℕ) → ((k : ℕ) → k < length ys → get_or ys k 0 < x) → insert x (ys ++ zs) ≡ ys ++ insert x zs
unfolding insert
insert_past x [] zs h = refl
insert_past x (y ∷ ys) zs h =
    let less : y < x = h 0 (omega arith) in
    ap₂ (λ (a b : Bool). insert_at a b x y (ys ++ zs) (insert x (ys ++ zs))) (le-ltb x y (omega arith)) (ne_eqb x y (λ e. omega arith))
    ∙ ap {B = List ℕ} (λ (r : List ℕ). y ∷ r) (insert_past x ys zs (λ k l. h (suc k) (omega arith)))

-- before a greater one, or at the end
pub insert-before : (x : ℕ) (ys : List ℕ) → (0 < length ys → x < get_or ys 0 0) → insert x ys ≡ x ∷ ys
unfolding insert
insert-before x [] h = refl
insert-before x (y ∷ ys) h = ap (λ (a : Bool). insert_at a (eqb x y) x y ys (insert x ys)) (lt-ltb x y (h (omega arith)))

-- where it stands
pub insert-same : (x : ℕ) (ys : List ℕ) → 0 < length ys → get_or ys 0 0 ≡ x → insert x ys ≡ ys
unfolding insert
insert-same x [] h e = absurd (omega arith)
insert-same x (y ∷ ys) h e = ap₂ (λ (a b : Bool). insert_at a b x y ys (insert x ys)) (le-ltb x y (omega arith)) (eq-eqb x y (sym e))

pub insert-longer : (x : ℕ) (ys : List ℕ) → length ys ≤ length (insert x ys)
unfolding insert
insert-longer x [] = omega arith
insert-longer x (y ∷ ys) = go (ltb x y) (eqb x y) (insert-longer x ys)
  where
    go : (a b : Bool) → length ys ≤ length (insert x ys) → length (y ∷ ys) ≤ length (insert_at a b x y ys (insert x ys))
    go true b h = omega arith
    go false true h = omega arith
    go false false h = omega arith

-- ---- a list put in the place of a part

-- as the copy of all of it
placed_paste : (from : ℕ) (new old : List ℕ) → placed from new old ≡ paste old from new (length new)
placed_paste from new old = ap (λ (l : List ℕ). take from old ++ l ++ drop (from + length new) old) (sym (take-length new))

module _ (from : ℕ) (new old : List ℕ) (h : from ≤ length old) where
  reach : length (take from old ++ new) ≡ from + length new
  reach = length-append (take from old) new ∙ ap (λ (n : ℕ). n + length new) (length-take-le from old h)

  -- the cells up to its end
  pub take-placed : take (from + length new) (placed from new old) ≡ take from old ++ new
  take-placed = take_at (take from old ++ new) (drop (from + length new) old) (from + length new) reach

  -- the part reads back
  pub slice_placed : slice from (from + length new) (placed from new old) ≡ new
  slice_placed = ap (drop from) take-placed ∙ drop_at (take from old) new from (length-take-le from old h)

  -- a longer one in its place
  pub placed_again : (next : List ℕ) → length new ≤ length next → placed from next (placed from new old) ≡ placed from next old
  placed_again next k =
      let first : take from (placed from new old) ≡ take from old =
      ap (take from) (append_assoc (take from old) new (drop (from + length new) old)) ∙ take_at (take from old) (new ++ drop (from + length new) old) from (length-take-le from old h) in
      let more : from + length next ≡ from + length new + (length next - length new) = omega arith in
      let last : drop (from + length next) (placed from new old) ≡ drop (from + length next) old =
      ap (λ (n : ℕ). drop n (placed from new old)) more
      ∙ sym (drop-drop (length next - length new) (from + length new) (placed from new old))
      ∙ ap (drop (length next - length new)) (drop_at (take from old ++ new) (drop (from + length new) old) (from + length new) reach)
      ∙ drop-drop (length next - length new) (from + length new) old
      ∙ ap (λ (n : ℕ). drop n old) (sym more) in
      ap₂ (λ (a b : List ℕ). a ++ next ++ b) first last

  -- the cells before it counted to it
  pub placed_earlier : (start : ℕ) → start ≤ from → placed from new old ≡ placed start (slice start from old ++ new) old
  placed_earlier start k =
      let long = length-slice start from old h in
      let reaches : from + length new ≡ start + length (slice start from old ++ new) = omega (arith, length-append (slice start from old) new) in
      ap₂ (λ (l : List ℕ) (n : ℕ). l ++ new ++ drop n old) (sym (take_join old start from k)) reaches
      ∙ ap (λ (l : List ℕ). l ++ drop (start + length (slice start from old ++ new)) old) (append_assoc (take start old) (slice start from old) new)

pub length-placed : (from : ℕ) (new old : List ℕ) → from + length new ≤ length old → length (placed from new old) ≡ length old
length-placed from new old h = ap length (placed_paste from new old) ∙ length-paste old from new (length new) h (omega arith)

-- a part in its own place
pub placed_same : (from end : ℕ) (old : List ℕ) → from ≤ end → end ≤ length old → placed from (slice from end old) old ≡ old
placed_same from end old h k =
    let reaches : from + length (slice from end old) ≡ end = omega (arith, length-slice from end old k) in
    ap (λ (n : ℕ). take from old ++ slice from end old ++ drop n old) reaches
    ∙ ap (λ (l : List ℕ). l ++ drop end old) (take_join old from end h)
    ∙ take-append-drop end old

pub placed-nothing : (from : ℕ) (old : List ℕ) → placed from [] old ≡ old
placed-nothing from old = sym (paste-zero old from [])

-- ---- the cells from `at` up to `end` one further, and x before them

abbrev pub shifted : List ℕ → ℕ → ℕ → ℕ → List ℕ
shifted old at end x = x ∷ slice at end old

-- x in the last of the first cells, and what comes after them
put_last : (at : ℕ) (old rest : List ℕ) (x : ℕ) → at < length old → set (take (suc at) old ++ rest) at x ≡ take at old ++ (x ∷ rest)
put_last at [] rest x h = absurd (omega arith)
put_last zero (y ∷ ys) rest x h = refl
put_last (suc at) (y ∷ ys) rest x h = ap {B = List ℕ} (λ (l : List ℕ). y ∷ l) (put_last at ys rest x (omega arith))

module _ (old : List ℕ) (at end x : ℕ) (h : at ≤ end) (k : end < length old) where
  -- moved one further, and x in the cell that is free then
  pub shift : set (paste old (at + 1) (drop at old) (end - at)) at x ≡ placed at (shifted old at end x) old
  shift =
      let whole : at + (end - at) ≡ end = omega arith in
      let moved : take (end - at) (drop at old) ≡ slice at end old = sym (drop-take at (end - at) old) ∙ ap (λ (n : ℕ). drop at (take n old)) whole in
      let reaches : at + 1 + (end - at) ≡ at + length (shifted old at end x) = omega (arith, length-slice at end old (omega arith)) in
      ap (λ (l : List ℕ). set l at x) (append_assoc (take (at + 1) old) (take (end - at) (drop at old)) (drop (at + 1 + (end - at)) old))
      ∙ ap (λ (n : ℕ). set (take n old ++ (take (end - at) (drop at old) ++ drop (at + 1 + (end - at)) old)) at x) (add-one at)
      ∙ put_last at old (take (end - at) (drop at old) ++ drop (at + 1 + (end - at)) old) x (omega arith)
      ∙ ap₂ (λ (l : List ℕ) (n : ℕ). take at old ++ (x ∷ (l ++ drop n old))) moved reaches
      ∙ sym (append_assoc (take at old) (shifted old at end x) (drop (at + length (shifted old at end x)) old))

-- ---- a number put into the cells from `from` up to `end`, where it was sought

module _ (l : List ℕ) (from end x r : ℕ) (sought : FoundNode l from end x r) (h : end ≤ length l) where
  split : insert x (slice from end l) ≡ slice from r l ++ insert x (slice r end l)
  split =
      let low = sought.low in
      let high = sought.high in
      ap (insert x) (slice_cut l from r end low high h)
      ∙ insert_past x (slice from r l) (slice r end l)
      (λ k b.
      let here : from + k < r = omega (arith, length-slice from r l (omega arith)) in
      let below = sought.below (from + k) (omega arith) here in
      omega (arith, get_or_slice l from r k 0 here))

  first_left : r < end → get_or (slice r end l) 0 0 ≡ get_or l r 0
  first_left k = get_or_slice l r end 0 0 (omega arith) ∙ ap (λ (n : ℕ). get_or l n 0) (add-zero r)

  -- it is there
  pub inserted_known : ltb r end && eqb (get_or l r 0) x ≡ true → insert x (slice from end l) ≡ slice from end l
  inserted_known t =
      let both = and_both (ltb r end) (eqb (get_or l r 0) x) t in
      let k : r < end = ltb-true r end both.0 in
      split
      ∙ ap (λ (z : List ℕ). slice from r l ++ z)
      (insert-same x (slice r end l) (omega (arith, length-slice r end l h)) (first_left k ∙ eqb-true (get_or l r 0) x both.1))
      ∙ sym (slice_cut l from r end sought.low sought.high h)

  -- it is new
  pub inserted_new : ltb r end && eqb (get_or l r 0) x ≡ false → insert x (slice from end l) ≡ slice from r l ++ shifted l r end x
  inserted_new f =
      split
      ∙ ap (λ (z : List ℕ). slice from r l ++ z)
      (insert-before x (slice r end l)
      (λ k.
      let inside : r < end = omega (arith, length-slice r end l h) in
      let apart = eqb-false (get_or l r 0) x (and-false (ltb r end) (eqb (get_or l r 0) x) f (lt-ltb r end inside)) in
      let above = sought.not-below inside in
      omega (arith, first_left inside)))

  -- what is there then, and where it ends
  pub known-stays
      : ltb r end && eqb (get_or l r 0) x ≡ true
      → (end ≡ from + length (insert x (slice from end l))) × (l ≡ placed from (insert x (slice from end l)) l)
  known-stays t =
      let low = sought.low in
      let high = sought.high in
      rw (inserted_known t) (omega (arith, length-slice from end l h), sym (placed_same from end l (omega arith) h))

  pub length_new : ltb r end && eqb (get_or l r 0) x ≡ false → length (insert x (slice from end l)) ≡ suc end - from
  length_new f =
      let low = sought.low in
      let high = sought.high in
      ap length (inserted_new f)
      ∙ omega (arith, length-append (slice from r l) (shifted l r end x), length-slice from r l (omega arith), length-slice r end l h)

  pub new-placed
      : (f : ltb r end && eqb (get_or l r 0) x ≡ false)
      → (end + 1 ≡ from + length (insert x (slice from end l))) × (placed r (shifted l r end x) l ≡ placed from (insert x (slice from end l)) l)
  new-placed f =
      let low = sought.low in
      let high = sought.high in (
        omega (arith, length_new f),
        placed_earlier r (shifted l r end x) l (omega arith) from low ∙ ap (λ (z : List ℕ). placed from z l) (sym (inserted_new f)),
      )
