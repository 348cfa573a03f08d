-- The hop records of an accepted profile ascend strictly by (from, to, tail, head), as numbers: by index, and as a list. From the order of each record and
-- the one before it, by transitivity.
use Prim.Native.Nat.{ℕ, zero, suc, ◌+◌, ◌≤◌, ◌<◌}
use native.Mathlib.Nat.{mul-le-mul_left, eq-or-lt_of_le, le_of_suc-le-suc}
use native.Mathlib.Omega.{arith}
use mathlib.Core.Path.{◌≡◌, sym, ap, ap₂, subst, ◌∙◌}
use mathlib.Core.Logic.{⊎_elim}
use mathlib.Core.Bool.{not}
use mathlib.Core.List.{List, [], ◌∷◌}
use borrow.Author.Tests.{not-false}
use Rattle.model.specs.Lists.{below, count_from, sum}
use Rattle.model.specs.Bytes.{number, part}
use Rattle.model.specs.Profile.{Layout, hop_count, hop_start, hop_at, hops, hop_misordered}
use Rattle.laws.proofs.Lists.{sorted_map, count_from_mem}
use Rattle.laws.proofs.ProfileLists.{sorted_count_from}
use Rattle.laws.proofs.Below.{below_trans}
use Rattle.laws.proofs.HopKeys.{hop_key, HopBelow, SortedHops}
use Rattle.laws.proofs.BigEndian.{Bytes, fields, below-fields}
use Rattle.laws.proofs.Accepted.{AcceptedProfile}

-- ---- the order of a record and the one before it, as the check has it

abbrev key_widths : List ℕ
key_widths = 2 ∷ 2 ∷ 4 ∷ 4 ∷ []

key-fields : (L : Layout) (s : List ℕ) (i : ℕ) → fields key_widths s (hop_start L s i) ≡ hop_key (hop_at L s i)
unfolding hop_at
key-fields L s i =
    let a = hop_start L s i in
    let p : a + 2 + 2 ≡ a + 4 = omega arith in
    let q : a + 2 + 2 + 4 ≡ a + 8 = omega arith in
    λ j. number 2 s a ∷ number 2 s (a + 2) ∷ number 4 s (p j) ∷ number 4 s (q j) ∷ []

-- the first 12 bytes of two records in the file's order compare as their keys
pub key-order
    : (L : Layout) (s : List ℕ) (i j : ℕ) → Bytes s → i ≤ j
    → below (part s (hop_start L s i) 12) (part s (hop_start L s j) 12) ≡ below (hop_key (hop_at L s i)) (hop_key (hop_at L s j))
unfolding sum
key-order L s i j b h =
    let starts : hop_start L s i ≤ hop_start L s j = omega (arith, mul-le-mul_left L.hop_size h) in
    below-fields key_widths s (hop_start L s i) (hop_start L s j) b starts ∙ ap₂ below (key-fields L s i) (key-fields L s j)

-- the check of a record's order, by the numbers of the two records
pub hop_misordered-key : (L : Layout) (s : List ℕ) (i : ℕ) → Bytes s → hop_misordered L s (suc i) ≡ not (below (hop_key (hop_at L s i)) (hop_key (hop_at L s (suc i))))
unfolding hop_misordered
hop_misordered-key L s i b = ap not (key-order L s i (suc i) b (omega arith))

-- ---- the order of any two records

module _ (L : Layout) (s : List ℕ) (b : Bytes s) (a : AcceptedProfile L s) where
  hop_next : (i : ℕ) → suc i < hop_count s → HopBelow (hop_at L s i) (hop_at L s (suc i))
  hop_next i h = not-false _ (sym (hop_misordered-key L s i b) ∙ (a.hop (suc i) h).ordered)

  pub hops_ascend : (i j : ℕ) → i < j → j < hop_count s → HopBelow (hop_at L s i) (hop_at L s j)
  hops_ascend i zero h k = absurd (omega arith)
  hops_ascend i (suc j) h k =
      let next = hop_next j k in
      let further : i < j → HopBelow (hop_at L s i) (hop_at L s j) = λ l. hops_ascend i j l (omega arith) in
      ⊎_elim
      (λ (e : i ≡ j). subst (λ (x : ℕ). HopBelow (hop_at L s x) (hop_at L s (suc j))) (sym e) next)
      (λ (l : i < j). below_trans (hop_key (hop_at L s i)) (hop_key (hop_at L s j)) (hop_key (hop_at L s (suc j))) (further l) next)
      (eq-or-lt_of_le (le_of_suc-le-suc h))

  pub hops_sorted : SortedHops (hops L s)
  unfolding hops
  hops_sorted =
      sorted_map ◌<◌ HopBelow (hop_at L s) (count_from 0 (hop_count s))
      (λ i j m n l. let r = count_from_mem 0 (hop_count s) n in hops_ascend i j l (omega arith))
      (sorted_count_from 0 (hop_count s))
