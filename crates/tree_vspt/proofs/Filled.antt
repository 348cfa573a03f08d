-- Numbers written one place before the other, from the last place to the first: one place more before those written or before those that stand, what a written
-- place reads as, and the last place of all. By the laws of lists written over lists.
use mathlib.Core.Path.{◌≡◌, refl, sym, ap, ap₂, ◌∙◌}
use mathlib.Core.Bool.{Bool}
use mathlib.Core.List.{List, [], ◌∷◌, ◌++◌, map, append_assoc, append-nil}
use Prim.Native.Nat.{ℕ, zero, suc, ◌+◌, ◌-◌, ◌≤◌, ◌<◌}
use native.Mathlib.Nat.{add-zero, zero-add, sub-zero}
use native.Mathlib.Omega.{arith}
use lib.ListN.{length, take, drop, set, length-append, length-map}
use lib.Seq.{slice, slice_empty, paste, paste-zero, paste-suc, length-paste, length-take-le, take-length, take_at, drop_at, take-take, take-append-le, take-append-add}
use borrow.Author.Tests.{le-ltb}
use Rattle.model.specs.Lists.{count_from, each}
use Rattle.model.specs.Request.{Search}
use Rattle.tree_levels.specs.Levels.{nodes_if, nodes_at, nodes_up_to, start_of}
use Rattle.tree_levels.proofs.Blocks.{each_add, each_next}
use Rattle.tree_reaches.specs.Reaches.{code_at}
use Rattle.tree_vspt.specs.Tree.{codes_from, filled_from, Holds, HoldsFrom, filled_at, TreeCodes}
use Rattle.tree_step.proofs.Entries.{slice_by_drop}

module _ {A : Type 0} where
  -- all of a list written over another
  pub pasted : (d : List A) (at : ℕ) (xs : List A) → paste d at xs (length xs) ≡ take at d ++ xs ++ drop (at + length xs) d
  pasted d at xs = ap (λ (l : List A). take at d ++ l ++ drop (at + length xs) d) (take-length xs)

  -- written before what was written
  pub paste-before
      : (d xs ys : List A) (a b : ℕ) → a + length xs ≡ b → b ≤ length d
      → paste (paste d b ys (length ys)) a xs (length xs) ≡ paste d a (xs ++ ys) (length (xs ++ ys))
  paste-before d xs ys a b e h =
      let rest : List A = drop (b + length ys) d in
      let mid : paste d b ys (length ys) ≡ take b d ++ (ys ++ rest) = pasted d b ys ∙ append_assoc (take b d) ys rest in
      let long : length (take b d) ≡ b = length-take-le b d h in
      let n : a + length (xs ++ ys) ≡ b + length ys = omega (arith, length-append xs ys) in
      pasted (paste d b ys (length ys)) a xs
      ∙ ap (λ (l : List A). take a l ++ xs ++ drop (a + length xs) l) mid
      ∙ ap₂ (λ (l r : List A). l ++ xs ++ r)
      (take-append-le a (take b d) (ys ++ rest) (omega arith) ∙ take-take a b d (omega arith))
      (ap (λ (k : ℕ). drop k (take b d ++ (ys ++ rest))) e ∙ drop_at (take b d) (ys ++ rest) b long)
      ∙ sym (append_assoc (take a d ++ xs) ys rest)
      ∙ ap (λ (l : List A). l ++ rest) (append_assoc (take a d) xs ys)
      ∙ ap (λ (k : ℕ). take a d ++ (xs ++ ys) ++ drop k d) (sym n)
      ∙ sym (pasted d a (xs ++ ys))

  -- the first part of what was written
  pub slice-pasted
      : (d xs ys : List A) (b e : ℕ) → b + length xs ≡ e → b ≤ length d → slice b e (paste d b (xs ++ ys) (length (xs ++ ys))) ≡ xs
  slice-pasted d xs ys b e h k =
      let rest : List A = drop (b + length (xs ++ ys)) d in
      let n : e - b ≡ length xs = omega arith in
      slice_by_drop b e (paste d b (xs ++ ys) (length (xs ++ ys))) (omega arith)
      ∙ ap (λ (l : List A). take (e - b) (drop b l)) (pasted d b (xs ++ ys) ∙ append_assoc (take b d) (xs ++ ys) rest)
      ∙ ap (take (e - b)) (drop_at (take b d) ((xs ++ ys) ++ rest) b (length-take-le b d k) ∙ append_assoc xs ys rest)
      ∙ take_at xs (ys ++ rest) (e - b) (sym n)

  -- what was written, and behind it what stood there
  pub slice-onward
      : (d xs : List A) (b m e : ℕ) → b + length xs ≡ m → m ≤ e → b ≤ length d → slice b e (paste d b xs (length xs)) ≡ xs ++ slice m e d
  slice-onward d xs b m e h k l =
      let n : e - b ≡ length xs + (e - m) = omega arith in
      slice_by_drop b e (paste d b xs (length xs)) (omega arith)
      ∙ ap (λ (r : List A). take (e - b) (drop b r)) (pasted d b xs ∙ append_assoc (take b d) xs (drop (b + length xs) d))
      ∙ ap (take (e - b)) (drop_at (take b d) (xs ++ drop (b + length xs) d) b (length-take-le b d l))
      ∙ ap₂ (λ (i j : ℕ). take i (xs ++ drop j d)) n h
      ∙ take-append-add xs (drop m d) (e - m)
      ∙ ap (λ (r : List A). xs ++ r) (sym (slice_by_drop m e d k))

  -- one element
  pub paste_one : (d : List A) (at : ℕ) (x : A) → at < length d → set d at x ≡ paste d at (x ∷ []) 1
  paste_one d at x h =
      ap₂ (λ (l : List A) (k : ℕ). set l k x) (paste-zero d at (x ∷ [])) (sym (add-zero at))
      ∙ paste-suc d at (x ∷ []) 0 x (omega arith) (omega arith)

-- ---- the places of a search

module _ (S : Search) where
  pub codes_cons : (i n : ℕ) → codes_from S i (suc n) ≡ map (code_at S i) (nodes_at S i) ++ codes_from S (suc i) n
  unfolding codes_from each count_from
  codes_cons i n = refl

  pub level-long : (i : ℕ) → start_of S i + length (map (code_at S i) (nodes_at S i)) ≡ start_of S (suc i)
  unfolding nodes_up_to each count_from
  level-long i =
      let e : start_of S (suc i) ≡ start_of S i + length (nodes_at S i ++ []) =
      ap (λ (k : ℕ). length (each (nodes_at S) (count_from 0 k))) one_more
      ∙ ap length (each_add (nodes_at S) 0 i 1)
      ∙ length-append (each (nodes_at S) (count_from 0 i)) (each (nodes_at S) (count_from (0 + i) 1))
      ∙ ap (λ (k : ℕ). start_of S i + length (nodes_at S k ++ [])) (zero-add i) in
      let m = length-map (nodes_at S i) (code_at S i) in
      let n = length-append (nodes_at S i) [] in
      omega arith
    where
      one_more : suc i ≡ i + 1
      one_more = omega arith

  pub codes-long : (i n : ℕ) → start_of S i + length (codes_from S i n) ≡ start_of S (i + n)
  unfolding codes_from each count_from
  codes-long i zero = add-zero (start_of S i) ∙ ap (start_of S) (sym (add-zero i))
  codes-long i (suc n) =
      let here = level-long i in
      let further = codes-long (suc i) n in
      let m = length-append (map (code_at S i) (nodes_at S i)) (codes_from S (suc i) n) in
      let k : start_of S (suc i + n) ≡ start_of S (i + suc n) = ap (start_of S) (omega arith) in
      omega arith

  -- the last place of all
  pub end-nodes : (n : ℕ) → n ≡ length S.sequence → nodes_at S n ≡ S.destination ∷ []
  unfolding nodes_at
  end-nodes n e = ap (λ (b : Bool). nodes_if b S n) (le-ltb n (length S.sequence) (omega arith))

  pub filled_end : (n : ℕ) (d : List ℕ) → n ≡ length S.sequence → start_of S n < length d → set d (start_of S n) (code_at S n S.destination) ≡ filled_from S n 1 d
  unfolding codes_from each count_from
  filled_end n d e h =
      paste_one d (start_of S n) (code_at S n S.destination) h
      ∙ sym (ap (λ (nodes : List ℕ). paste d (start_of S n) (map (code_at S n) nodes ++ []) (length (map (code_at S n) nodes ++ []))) (end-nodes n e))

  -- one place more before those written
  pub Filled-more
      : (i n : ℕ) (d : List ℕ) → start_of S (suc i) ≤ length d
      → paste (filled_from S (suc i) n d) (start_of S i) (map (code_at S i) (nodes_at S i)) (length (map (code_at S i) (nodes_at S i))) ≡ filled_from S i (suc n) d
  Filled-more i n d h =
      paste-before d (map (code_at S i) (nodes_at S i)) (codes_from S (suc i) n) (start_of S i) (start_of S (suc i)) (level-long i) h
      ∙ sym (ap (λ (l : List ℕ). paste d (start_of S i) l (length l)) (codes_cons i n))

  -- the first place written
  pub filled_first : (i n : ℕ) (d : List ℕ) → start_of S i ≤ length d → slice (start_of S i) (start_of S (suc i)) (filled_from S i (suc n) d) ≡ map (code_at S i) (nodes_at S i)
  filled_first i n d h =
      ap (λ (l : List ℕ). slice (start_of S i) (start_of S (suc i)) (paste d (start_of S i) l (length l))) (codes_cons i n)
      ∙ slice-pasted d (map (code_at S i) (nodes_at S i)) (codes_from S (suc i) n) (start_of S i) (start_of S (suc i)) (level-long i) h

  pub filled_long : (i n : ℕ) (d : List ℕ) → start_of S (i + n) ≤ length d → length (filled_from S i n d) ≡ length d
  filled_long i n d h = length-paste d (start_of S i) (codes_from S i n) (length (codes_from S i n)) (omega (arith, codes-long i n)) (omega arith)

  -- a place starts no later than those behind it
  pub starts_later : (i j : ℕ) → i ≤ j → start_of S i ≤ start_of S j
  starts_later i j h =
      let e : i + (j - i) ≡ j = omega arith in
      omega (arith, codes-long i (j - i), ap (start_of S) e)

  pub filled_none : (i : ℕ) (d : List ℕ) → d ≡ filled_from S i 0 d
  unfolding codes_from each count_from
  filled_none i d = paste-zero d (start_of S i) []

  -- ---- what stands from a place on

  -- all that was written from it on
  pub filled_holds : (i n : ℕ) (d : List ℕ) → i + n ≡ suc (length S.sequence) → start_of S i ≤ length d → HoldsFrom S i (filled_from S i n d)
  filled_holds i n d e h =
      let end : start_of S i + length (codes_from S i n) ≡ start_of S (suc (length S.sequence)) = codes-long i n ∙ ap (start_of S) e in
      let count : n ≡ suc (length S.sequence) - i = omega arith in
      slice-onward d (codes_from S i n) (start_of S i) (start_of S (suc (length S.sequence))) (start_of S (suc (length S.sequence))) end (omega arith) h
      ∙ ap (λ (r : List ℕ). codes_from S i n ++ r) (slice_empty (start_of S (suc (length S.sequence))) d)
      ∙ append-nil (codes_from S i n)
      ∙ ap (codes_from S i) count

  -- the place itself
  pub holds-first : (i : ℕ) (d : List ℕ) → i ≤ length S.sequence → HoldsFrom S i d → Holds S i d
  holds-first i d h holds =
      let end = suc (length S.sequence) in
      let here = level-long i in
      let order = starts_later (suc i) end (omega arith) in
      let count : end - i ≡ suc (end - suc i) = omega arith in
      slice_by_drop (start_of S i) (start_of S (suc i)) d (omega arith)
      ∙ sym (take-take (start_of S (suc i) - start_of S i) (start_of S end - start_of S i) (drop (start_of S i) d) (omega arith))
      ∙ ap (take (start_of S (suc i) - start_of S i))
      (sym (slice_by_drop (start_of S i) (start_of S end) d (omega arith)) ∙ holds ∙ ap (codes_from S i) count ∙ codes_cons i (end - suc i))
      ∙ take_at (map (code_at S i) (nodes_at S i)) (codes_from S (suc i) (end - suc i)) (start_of S (suc i) - start_of S i) (omega arith)

  -- one place more before them
  pub holds_more : (i : ℕ) (d : List ℕ) → i ≤ length S.sequence → start_of S i ≤ length d → HoldsFrom S (suc i) d → HoldsFrom S i (filled_at S i d)
  holds_more i d h k holds =
      let end = suc (length S.sequence) in
      let count : end - i ≡ suc (end - suc i) = omega arith in
      slice-onward d (map (code_at S i) (nodes_at S i)) (start_of S i) (start_of S (suc i)) (start_of S end) (level-long i) (starts_later (suc i) end (omega arith)) k
      ∙ ap (λ (r : List ℕ). map (code_at S i) (nodes_at S i) ++ r) holds
      ∙ sym (ap (codes_from S i) count ∙ codes_cons i (end - suc i))

  -- from the first place on they are the whole tree
  pub holds-whole : (d : List ℕ) → HoldsFrom S 0 d → TreeCodes S d
  unfolding nodes_up_to each count_from
  holds-whole d holds = holds ∙ ap (codes_from S 0) (sub-zero (suc (length S.sequence)))

  -- the places before one that was written
  pub filled-before
      : (n : ℕ) (d : List ℕ) → start_of S n ≤ length d → filled_from S 0 n (filled_at S n d) ≡ filled_from S 0 (suc n) d
  unfolding nodes_up_to codes_from each count_from
  filled-before n d h =
      let long : 0 + length (codes_from S 0 n) ≡ start_of S n = codes-long 0 n ∙ ap (start_of S) (zero-add n) in
      paste-before d (codes_from S 0 n) (map (code_at S n) (nodes_at S n)) 0 (start_of S n) long h
      ∙ sym (ap (λ (l : List ℕ). paste d 0 l (length l)) (each_next (λ (j : ℕ). map (code_at S j) (nodes_at S j)) n))
