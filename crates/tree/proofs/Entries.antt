-- The entries and what is held of them in numbers: the levels put over a list, the addresses and the reaches give the entries back. By index.
use Prim.Native.Nat.{ℕ, ◌<◌}
use native.Mathlib.Nat.{zero-add}
use native.Mathlib.Omega.{arith}
use mathlib.Core.Path.{◌≡◌, refl, sym, ap, ap₂, ◌∙◌}
use mathlib.Core.Bool.{Bool, true, false}
use mathlib.Core.List.{List, map}
use lib.ListN.{length, get_or, take, drop, length-map, get_or-map, get_or-append}
use lib.Dec.{eqb}
use lib.Seq.{ext_get_or, get_or-take}
use Rattle.model.specs.declared.TreeEntry.{TreeEntry}
use Rattle.model.specs.Lists.{over, count_from}
use Rattle.laws.proofs.ProfileLists.{length-map-count_from, get_or-map-count_from}
use Rattle.tree_reaches.specs.Reaches.{reach_of}
use Rattle.tree_entries.specs.Entries.{entry_at, entries_of}
use Rattle.tree_fields.specs.Fields.{mark_if, level, address, mark, cost, mark_of, cost_of, levels_of}
use Rattle.tree_fields.specs.TreeResult.{Held}
use Rattle.tree_fields.proofs.Over.{held-count, levels-over}

-- what lies past the end: the entry of the numbers 0
abbrev none : TreeEntry
none = record { level = 0; address = record { 0 = 0 }; reachable = true; cost = 0 }

marked : (b : Bool) → eqb (mark_if b) 1 ≡ b
marked true = refl
marked false = refl

-- a mark tells whether the entry is reachable
same-mark : (a b : Bool) → mark_if a ≡ mark_if b → a ≡ b
same-mark a b e = sym (marked a) ∙ ap (λ (m : ℕ). eqb m 1) e ∙ marked b

module _ (w : List TreeEntry) (places n : ℕ) (addresses codes starts : List ℕ) (h : Held w places n addresses codes starts) where
  -- a field of an entry that a list holds number by number
  held_at : (g : TreeEntry → ℕ) (f : ℕ → ℕ) (l : List ℕ) (i : ℕ) → f 0 ≡ g none → map f (take n l) ≡ map g w → i < n → f (get_or l i 0) ≡ g (get_or w i none)
  held_at g f l i z e k =
      ap f (sym (get_or-take n l i 0 k))
      ∙ sym (get_or-map f (take n l) i 0)
      ∙ ap₂ (λ (xs : List ℕ) (d : ℕ). get_or xs i d) e z
      ∙ get_or-map g w i none

  level_at : (old : List ℕ) (i : ℕ) → i < n → get_or (over (map level w) old) i 0 ≡ (get_or w i none).level
  unfolding over
  level_at old i k =
      get_or-append (map level w) (drop (length (map level w)) old) 0 i (omega (arith, length-map w level, held-count w places n addresses codes starts h))
      ∙ get_or-map level w i none

  address_at_lem : (i : ℕ) → i < n → get_or addresses i 0 ≡ (get_or w i none).address.0
  address_at_lem i k = sym (get_or-take n addresses i 0 k) ∙ ap (λ (xs : List ℕ). get_or xs i 0) h.addresses_are ∙ get_or-map address w i none

  module _ (levels old : List ℕ) (put : levels ≡ over (levels_of places starts) old) where
    abbrev back : ℕ → TreeEntry
    back = entry_at levels addresses codes

    same : (i : ℕ) → i < n → back i ≡ get_or w i none
    same i k =
        let a = ap (λ (l : List ℕ). get_or l i 0) (levels-over w places n addresses codes starts h old levels put) ∙ level_at old i k in
        let b = address_at_lem i k in
        let m = held_at mark mark_of codes i refl h.marks_are k in
        let r = same-mark (reach_of (get_or codes i 0)).reachable (get_or w i none).reachable m in
        let d = held_at cost cost_of codes i refl h.costs_are k in
        λ j. record { level = a j; address = record { 0 = b j }; reachable = r j; cost = d j }

    pub entries-back : entries_of n levels addresses codes ≡ w
    unfolding entries_of
    entries-back =
        ext_get_or none (map back (count_from 0 n)) w (length-map-count_from back 0 n ∙ held-count w places n addresses codes starts h) (λ i k.
        let small : i < n = omega (arith, length-map-count_from back 0 n) in
        get_or-map-count_from back 0 n i none small ∙ ap back (zero-add i) ∙ same i small)
