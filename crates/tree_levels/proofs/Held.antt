-- The different heads of more and more hop records (`heads_of`): none, one record more, never fewer; and how the cells that hold them change with one more.
use Prim.Native.Nat.{ℕ, zero, suc, ◌+◌, ◌-◌, ◌*◌, ◌≤◌, ◌<◌}
use native.Mathlib.Nat.{eq-or-lt_of_le, mul-suc}
use native.Mathlib.Numerals.{add-one}
use native.Mathlib.Omega.{arith}
use mathlib.Core.Path.{◌≡◌, sym, ap, ◌∙◌}
use mathlib.Core.Logic.{⊎_elim}
use mathlib.Core.Bool.{true, ◌&&◌}
use mathlib.Core.List.Memᴰ
use mathlib.Core.List.{List, [], ◌∷◌, map}
use lib.ListN.{length, get_or, take, drop}
use lib.Seq.{slice, slice_empty, drop-append-le, length-take-le}
use lib.Dec.{eqb, ltb}
use borrow.Author.Tests.{ltb-true, eqb-true}
use Rattle.model.specs.declared.Hop.{Hop}
use Rattle.model.specs.Lists.{insert, different}
use Rattle.model.specs.Bytes.{number}
use Rattle.model.specs.Profile.{Layout, hop_count, hop_start, hop_at, hops}
use Rattle.laws.proofs.Tests.{and_both}
use Rattle.laws.specs.Sorted.{Sorted}
use Rattle.laws.proofs.Lists.{map-append}
use Rattle.laws.proofs.ProfileLists.{different-ascending, different_snoc, insert-known}
use Rattle.laws.proofs.Ascending.{get_or_mem}
use Rattle.laws.proofs.Records.{length-hops, take-hops}
use Rattle.tree_levels.specs.Entries.{placed, heads_of}
use Rattle.laws.proofs.Ranges.{get_or_slice}
use Rattle.tree_levels.proofs.Placing.{insert-longer, slice_placed, placed_again, placed-nothing}

module _ (L : Layout) (s : List ℕ) (first : ℕ) where
  pub heads_none : heads_of L s first first ≡ []
  unfolding heads_of different
  heads_none = ap (λ (hs : List Hop). different (map (λ (h : Hop). h.head.0) hs)) (slice_empty first (hops L s))

  pub heads_ascending : (i : ℕ) → Sorted ◌<◌ (heads_of L s first i)
  unfolding heads_of
  heads_ascending i = different-ascending (map (λ (h : Hop). h.head.0) (slice first i (hops L s)))

  pub heads_next : (i : ℕ) → first ≤ i → i < hop_count s → heads_of L s first (suc i) ≡ insert (hop_at L s i).head.0 (heads_of L s first i)
  unfolding heads_of
  heads_next i h k =
      let long : length (take i (hops L s)) ≡ i = length-take-le i (hops L s) (omega (arith, length-hops L s)) in
      ap (λ (hs : List Hop). different (map (λ (h : Hop). h.head.0) hs))
      (ap (drop first) (take-hops L s i k) ∙ drop-append-le first (take i (hops L s)) (hop_at L s i ∷ []) (omega arith))
      ∙ ap different (map-append (λ (h : Hop). h.head.0) (slice first i (hops L s)) (hop_at L s i ∷ []))
      ∙ different_snoc (map (λ (h : Hop). h.head.0) (slice first i (hops L s))) (hop_at L s i).head.0

  pub heads_grow : (i last : ℕ) → first ≤ i → i ≤ last → last ≤ hop_count s → length (heads_of L s first i) ≤ length (heads_of L s first last)
  heads_grow i zero f h k = let e : i ≡ 0 = omega arith in omega (arith, ap (λ (n : ℕ). length (heads_of L s first n)) e)
  heads_grow i (suc last) f h k =
      ⊎_elim
      (λ (e : i ≡ suc last). omega (arith, ap (λ (n : ℕ). length (heads_of L s first n)) e))
      (λ (l : i < suc last).
      let before = heads_grow i last f (omega arith) (omega arith) in
      omega (arith, ap length (heads_next last (omega arith) k), insert-longer (hop_at L s last).head.0 (heads_of L s first last)))
      (eq-or-lt_of_le h)

-- the cells from `from` up to `end` hold the heads of the records from `first` up to i; the others are as they were
pub record Holds (L : Layout) (s : List ℕ) (first i from : ℕ) (old l : List ℕ) (end : ℕ) : Type 0 where
  pub ends : end ≡ from + length (heads_of L s first i)
  pub cells : l ≡ placed from (heads_of L s first i) old

pub holds_none : (L : Layout) (s : List ℕ) (first from : ℕ) (l : List ℕ) → Holds L s first first from l l from
holds_none L s first from l =
    record { ends = rw (heads_none L s first) (omega arith); cells = rw (heads_none L s first) (sym (placed-nothing from l)) }

module _ (L : Layout) (s : List ℕ) (first i from : ℕ) (old l : List ℕ) (end : ℕ) (holds : Holds L s first i from old l end) (h : from ≤ length old) where
  pub part_held : slice from end l ≡ heads_of L s first i
  part_held = rw (holds.cells, holds.ends) (slice_placed from (heads_of L s first i) old h)

  module _ (f : first ≤ i) (k : i < hop_count s) (x : ℕ) (head : x ≡ (hop_at L s i).head.0) where
    next : heads_of L s first (i + 1) ≡ insert x (heads_of L s first i)
    next = ap (heads_of L s first) (add-one i) ∙ heads_next L s first i f k ∙ ap (λ (n : ℕ). insert n (heads_of L s first i)) (sym head)

    pub length_next : length (insert x (slice from end l)) ≡ length (heads_of L s first (i + 1))
    length_next = ap (λ (r : List ℕ). length (insert x r)) part_held ∙ ap length (sym next)

    -- the head of record i found in one of them
    pub holds-known : (at : ℕ) → from ≤ at → ltb at end && eqb (get_or l at 0) x ≡ true → Holds L s first (i + 1) from old l end × (at < end)
    holds-known at low t =
        let held = heads_of L s first i in
        let both = and_both (ltb at end) (eqb (get_or l at 0) x) t in
        let inside = ltb-true at end both.0 in
        let ends = holds.ends in
        let here : from + (at - from) ≡ at = omega arith in
        let same : x ≡ get_or held (at - from) 0 =
        sym (eqb-true (get_or l at 0) x both.1)
        ∙ ap (λ (n : ℕ). get_or l n 0) (sym here)
        ∙ sym (get_or_slice l from end (at - from) 0 (omega arith))
        ∙ ap (λ (r : List ℕ). get_or r (at - from) 0) part_held in
        let known : heads_of L s first (i + 1) ≡ held =
        next ∙ insert-known x held (heads_ascending L s first i) (Memᴰ.cast same (get_or_mem held (at - from) 0 (omega arith))) in
        (record { ends = rw known holds.ends; cells = rw known holds.cells }, inside)

    -- or put in
    pub holds-put
        : (new : List ℕ) (after : ℕ)
        → after ≡ from + length (insert x (slice from end l))
        → new ≡ placed from (insert x (slice from end l)) l
        → Holds L s first (i + 1) from old new after
    holds-put new after e p =
        let held = heads_of L s first i in
        record {
          ends = e ∙ ap (λ (n : ℕ). from + n) length_next;
          cells =
              p
              ∙ ap (λ (r : List ℕ). placed from (insert x r) l) part_held
              ∙ ap (placed from (insert x held)) holds.cells
              ∙ placed_again from held old h (insert x held) (insert-longer x held)
              ∙ ap (λ (r : List ℕ). placed from r old) (sym next);
        }

-- where the head of a record is read
pub head_read : (L : Layout) (s : List ℕ) (i at x : ℕ) → at ≡ hop_start L s i → x ≡ number 4 s (at + 8) → x ≡ (hop_at L s i).head.0
unfolding hop_at
head_read L s i at x a e = e ∙ ap (λ (n : ℕ). number 4 s (n + 8)) a

-- where the next one starts
pub next_start : (L : Layout) (s : List ℕ) (i : ℕ) → hop_start L s i + L.hop_size ≡ hop_start L s (i + 1)
next_start L s i = omega (arith, mul-suc L.hop_size i, ap (λ (n : ℕ). L.hop_size * n) (add-one i))
