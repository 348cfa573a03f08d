-- The tree in numbers holds the entries of `tree`, field by field: each field of the tree's entries is a list over the places, and so is what `tree_vspt` works out.
-- By recursion over the places.
use Prim.Native.Nat.{ℕ, zero, suc, ◌+◌, ◌-◌, ◌≤◌, ◌<◌}
use native.Mathlib.Nat.{zero-add}
use native.Mathlib.Omega.{arith}
use mathlib.Core.Path.{◌≡◌, refl, sym, ap, ap₂, subst, ◌∙◌}
use mathlib.Core.Bool.{Bool}
use mathlib.Core.List.{List, [], ◌∷◌, ◌++◌, map, Memᴰ}
use lib.ListN.{length, get_or, take, replicate, length-append, length-map, length-take}
use lib.Seq.{take-take, take_at}
use borrow.Author.Tests.{lt-ltb}
use Rattle.model.specs.declared.Hop.{Hop}
use Rattle.model.specs.declared.TreeEntry.{TreeEntry}
use Rattle.model.specs.Lists.{count_from, each}
use Rattle.model.specs.Profile.{Layout, cost_limit}
use Rattle.model.specs.Request.{Search}
use Rattle.model.specs.Tree.{entries_at, entry, tree}
use Rattle.laws.proofs.Lists.{map-append, count_from_mem}
use Rattle.laws.specs.Reach.{Reach}
use Rattle.laws.proofs.TreeLeast.{entry-is}
use Rattle.tree_levels.specs.Levels.{nodes_if, nodes_at, nodes_up_to, start_of}
use Rattle.tree_levels.proofs.Blocks.{each_next}
use Rattle.tree_reaches.specs.Reaches.{code_at}
use Rattle.tree_vspt.specs.Tree.{codes_from, WorkedOut}
use Rattle.tree_vspt.proofs.Filled.{level-long, codes-long, end-nodes}
use Rattle.tree_vspt.proofs.Known.{reach_back}
use Rattle.tree_fields.specs.Fields.{mark_if, level, address, mark, cost, mark_of, cost_of, levels_at, levels_of}
use Rattle.tree_fields.proofs.Fields.{map_same}
use Rattle.tree_fields.specs.TreeResult.{Held}

-- ---- lists over lists

module _ {A B C : Type 0} (f : B → C) where
  map_each : (g : A → List B) (xs : List A) → map f (each g xs) ≡ each (λ (x : A). map f (g x)) xs
  unfolding each
  map_each g [] = refl
  map_each g (x ∷ xs) = map-append f (g x) (each g xs) ∙ ap (λ (r : List C). map f (g x) ++ r) (map_each g xs)

  map_both : (g : A → B) (h : A → C) → ((x : A) → f (g x) ≡ h x) → (xs : List A) → map f (map g xs) ≡ map h xs
  map_both g h e [] = refl
  map_both g h e (x ∷ xs) = ap₂ (λ (y : C) (r : List C). y ∷ r) (e x) (map_both g h e xs)

module _ {A B : Type 0} (f g : A → List B) where
  each_agree : (xs : List A) → ((x : A) → Memᴰ x xs → f x ≡ g x) → each f xs ≡ each g xs
  unfolding each
  each_agree [] e = refl
  each_agree (x ∷ xs) e = ap₂ (λ (l r : List B). l ++ r) (e x (Memᴰ.head refl)) (each_agree xs (λ y m. e y (Memᴰ.tail m)))

map_alike : {A : Type 0} (x : ℕ) (l : List A) → map (λ (a : A). x) l ≡ replicate (length l) x
map_alike x [] = refl
map_alike x (a ∷ l) = ap (λ (r : List ℕ). x ∷ r) (map_alike x l)

-- ---- the fields of the tree's entries

module _ (S : Search) where
  abbrev k : ℕ
  k = length S.sequence

  nodes_are : (i : ℕ) → i < k → entries_at S i ≡ nodes_at S i
  unfolding nodes_at
  nodes_are i h = sym (ap (λ (b : Bool). nodes_if b S i) (lt-ltb i k h))

  -- a field that each entry has by its place and address
  field : (f : TreeEntry → ℕ) (g : ℕ → ℕ → ℕ) → ((i a : ℕ) → f (entry S i a) ≡ g i a) → map f (tree S) ≡ each (λ (i : ℕ). map (g i) (nodes_at S i)) (count_from 0 k)
  unfolding tree
  field f g e =
      map_each f (λ (i : ℕ). map (entry S i) (entries_at S i)) (count_from 0 k)
      ∙ each_agree (λ (i : ℕ). map f (map (entry S i) (entries_at S i))) (λ (i : ℕ). map (g i) (nodes_at S i)) (count_from 0 k) (λ i m.
      map_both f (entry S i) (g i) (e i) (entries_at S i) ∙ ap (map (g i)) (nodes_are i (omega (arith, (count_from_mem 0 k m).1))))

  tree-levels : map level (tree S) ≡ each (λ (i : ℕ). replicate (length (nodes_at S i)) i) (count_from 0 k)
  unfolding entry
  tree-levels =
      field level (λ (i a : ℕ). i) (λ i a. refl)
      ∙ each_agree (λ (i : ℕ). map (λ (a : ℕ). i) (nodes_at S i)) (λ (i : ℕ). replicate (length (nodes_at S i)) i) (count_from 0 k) (λ i m. map_alike i (nodes_at S i))

  tree-addresses : map address (tree S) ≡ nodes_up_to S k
  unfolding entry nodes_up_to
  tree-addresses =
      field address (λ (i a : ℕ). a) (λ i a. refl)
      ∙ each_agree (λ (i : ℕ). map (λ (a : ℕ). a) (nodes_at S i)) (nodes_at S) (count_from 0 k) (λ i m. map_same (nodes_at S i))

  pub tree-length : length (tree S) ≡ start_of S k
  tree-length = sym (length-map (tree S) address) ∙ ap length tree-addresses

  module _ (few : k ≤ 16) (cheap : (h : Hop) → Memᴰ h S.hops → h.cost ≤ cost_limit) where
    -- a field that each entry has by its number
    coded : (f : TreeEntry → ℕ) (g : ℕ → ℕ) → ((i a : ℕ) → f (entry S i a) ≡ g (code_at S i a)) → map f (tree S) ≡ map g (codes_from S 0 k)
    unfolding codes_from
    coded f g e =
        field f (λ (i a : ℕ). g (code_at S i a)) e
        ∙ each_agree (λ (i : ℕ). map (λ (a : ℕ). g (code_at S i a)) (nodes_at S i)) (λ (i : ℕ). map g (map (code_at S i) (nodes_at S i))) (count_from 0 k) (λ i m.
        sym (map_both g (code_at S i) (λ (a : ℕ). g (code_at S i a)) (λ a. refl) (nodes_at S i)))
        ∙ sym (map_each g (λ (i : ℕ). map (code_at S i) (nodes_at S i)) (count_from 0 k))

    tree-marks : map mark (tree S) ≡ map mark_of (codes_from S 0 k)
    tree-marks = coded mark mark_of (λ i a. ap mark (entry-is S i a) ∙ sym (ap (λ (x : Reach). mark_if x.reachable) (reach_back S few cheap i a)))

    tree-costs : map cost (tree S) ≡ map cost_of (codes_from S 0 k)
    tree-costs = coded cost cost_of (λ i a. ap cost (entry-is S i a) ∙ sym (ap (λ (x : Reach). x.cost) (reach_back S few cheap i a)))

    -- ---- what is worked out

    module _ (L : Layout) (s addresses codes starts firsts lasts : List ℕ) (examined : ℕ) (worked : WorkedOut L s S addresses codes starts firsts lasts examined) where
      abbrev n : ℕ
      n = start_of S k

      one_behind : start_of S (suc k) ≡ suc n
      one_behind =
          let e = level-long S k in
          let m = length-map (nodes_at S k) (code_at S k) in
          let o = ap length (end-nodes S k refl) in
          omega arith

      pub most : n ≤ 241
      most = omega (arith, worked.laid.fits, one_behind)

      first_addresses : take n addresses ≡ nodes_up_to S k
      unfolding nodes_up_to
      first_addresses =
          sym (take-take n (start_of S (suc k)) addresses (omega (arith, one_behind)))
          ∙ ap (take n) (worked.laid.addresses_are ∙ each_next (nodes_at S) k)
          ∙ take_at (nodes_up_to S k) (nodes_at S k) n refl

      codes-counted : length (codes_from S 0 k) ≡ n
      unfolding nodes_up_to each count_from
      codes-counted = sym (zero-add (length (codes_from S 0 k))) ∙ codes-long S 0 k ∙ ap (start_of S) (zero-add k)

      first_codes : take n codes ≡ codes_from S 0 k
      unfolding codes_from nodes_up_to each count_from
      first_codes =
          sym (take-take n (start_of S (suc k)) codes (omega (arith, one_behind)))
          ∙ ap (take n) (worked.codes_are ∙ each_next (λ (i : ℕ). map (code_at S i) (nodes_at S i)) k)
          ∙ take_at (codes_from S 0 k) (map (code_at S k) (nodes_at S k)) n codes-counted

      -- the levels up to a place
      start_next : (i : ℕ) → start_of S (suc i) ≡ start_of S i + length (nodes_at S i)
      start_next i = omega (arith, level-long S i, length-map (nodes_at S i) (code_at S i))

      levels_at_lem : (i : ℕ) → i < k → levels_at starts i ≡ replicate (length (nodes_at S i)) i
      levels_at_lem i h =
          let a = worked.laid.starts_are i (omega arith) in
          let b = worked.laid.starts_are (suc i) (omega arith) in
          let e : get_or starts (suc i) 0 - get_or starts i 0 ≡ length (nodes_at S i) = omega (arith, start_next i) in
          ap (λ (m : ℕ). replicate m i) e

      pub starts_at : (i : ℕ) → i ≤ k → get_or starts i 0 ≡ start_of S i
      starts_at i h = worked.laid.starts_are i (omega arith)

      level-length : (i : ℕ) → i ≤ k → start_of S i ≡ length (levels_of i starts)
      unfolding levels_of nodes_up_to each count_from
      level-length zero h = refl
      level-length (suc i) h =
          let e = ap length (each_next (levels_at starts) i) in
          let m = length-append (levels_of i starts) (levels_at starts i) in
          let a = starts_at i (omega arith) in
          let b = starts_at (suc i) h in
          let l = level-length i (omega arith) in
          let r = ap length (levels_at_lem i h) in
          let p = length-map (nodes_at S i) (λ (x : ℕ). i) in
          let q = ap length (map_alike i (nodes_at S i)) in
          omega (arith, start_next i)

      up_to : (i j : ℕ) → i + j ≡ k → start_of S i ≤ n
      up_to i zero e = let r = ap (start_of S) e in let z = ap (start_of S) (zero-add i) in subst (λ (m : ℕ). start_of S i ≤ start_of S m) (same e) (omega arith)
        where
          same : i + 0 ≡ k → i ≡ k
          same h = omega arith
      up_to i (suc j) e = omega (arith, start_next i, up_to (suc i) j (omega arith))

      pub held : Held (tree S) k n addresses codes starts
      unfolding levels_of
      held =
          record {
            in_order =
                record {
                  few = few;
                  start_is = λ i h. starts_at i (omega arith) ∙ level-length i (omega arith);
                  ascends = λ i h. omega (arith, starts_at i (omega arith), starts_at (suc i) (omega arith), start_next i);
                  fits = λ i h. omega (arith, starts_at (suc i) (omega arith), up_to (suc i) (k - suc i) (omega arith));
                };
            in_addresses = omega (arith, ap length first_addresses, length-take n addresses);
            in_codes = omega (arith, ap length first_codes, length-take n codes, codes-counted);
            levels_are =
                each_agree (levels_at starts) (λ (i : ℕ). replicate (length (nodes_at S i)) i) (count_from 0 k) (λ i m. levels_at_lem i (omega (arith, (count_from_mem 0 k m).1)))
                ∙ sym tree-levels;
            addresses_are = first_addresses ∙ sym tree-addresses;
            marks_are = ap (map mark_of) first_codes ∙ sym tree-marks;
            costs_are = ap (map cost_of) first_codes ∙ sym tree-costs;
          }
