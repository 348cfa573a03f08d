-- The lent list while it is filled: one entry more, and all of them.
use mathlib.Core.Path.{◌≡◌, sym, ◌∙◌, ap}
use mathlib.Core.List.{List, ◌++◌}
use Prim.Native.Nat.{ℕ, suc, ◌<◌, ◌≤◌}
use native.Mathlib.Nat.{zero-add}
use native.Mathlib.Omega.{arith}
use lib.ListN.{length, take, drop, set}
use lib.Seq.{take_all, length-take-le}
use Rattle.std.proofs.lemmas.List.{append-nil, drop_all}
use Rattle.model.specs.declared.TreeEntry.{TreeEntry}
use Rattle.model.specs.Lists.{over}
use Rattle.laws.proofs.Lists.{Copied-next}
use Rattle.laws.proofs.ProfileLists.{length-map-count_from, get_or-map-count_from}
use Rattle.tree_entries.specs.Entries.{entry_at, entries_of}

module _ (n : ℕ) (levels addresses codes : List ℕ) where
  abbrev entries : List TreeEntry
  entries = entries_of n levels addresses codes

  pub length-entries : length entries ≡ n
  unfolding entries_of
  length-entries = length-map-count_from (entry_at levels addresses codes) _ n

  -- the list after i entries are written
  abbrev pub after : List TreeEntry → ℕ → List TreeEntry
  after old i = over (take i entries) old

  pub after_next : (old : List TreeEntry) (i : ℕ) → i < n → n ≤ length old → set (after old i) i (entry_at levels addresses codes i) ≡ after old (suc i)
  unfolding entries_of
  after_next old i h k =
      ap (set (after old i) i) (sym (get_or-map-count_from (entry_at levels addresses codes) _ n i none h ∙ ap (entry_at levels addresses codes) (zero-add i)))
      ∙ Copied-next entries old i none (omega (arith, length-entries)) (omega arith)
    where
      none : TreeEntry
      none = entry_at levels addresses codes 0

  -- all are written over the first n, and what stands behind those is untouched
  pub after_all : (old : List TreeEntry) → n ≤ length old → after (take n old) n ++ drop n old ≡ over entries old
  unfolding over
  after_all old h =
      let m = length-entries in
      let k = length-take-le n old h in
      ap (λ (l : List TreeEntry). (l ++ drop (length l) (take n old)) ++ drop n old) (take_all n entries (omega arith))
      ∙ ap (λ (l : List TreeEntry). (entries ++ l) ++ drop n old) (drop_all (length entries) (take n old) (omega arith))
      ∙ ap (λ (l : List TreeEntry). l ++ drop n old) (append-nil entries)
      ∙ ap (λ (i : ℕ). entries ++ drop i old) (sym m)
