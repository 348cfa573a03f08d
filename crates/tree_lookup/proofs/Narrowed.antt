-- The search in its turns: what is known after some looks, and what one look more says. The places left are bracketed (`laws`), are no more than the looks left
-- settle, and the whole search is what is left of it after the looks so far.
use mathlib.Core.Path.{◌≡◌, refl, sym, ap, ◌∙◌}
use mathlib.Core.Logic.{⊎_elim}
use mathlib.Core.Bool.{true, false}
use mathlib.Core.List.{List}
use Prim.Native.Nat.{ℕ, zero, suc, ◌+◌, ◌-◌, ◌≤◌, ◌<◌}
use native.Mathlib.Nat.{eq-or-lt_of_le}
use native.Mathlib.Numerals.{add-one}
use native.Mathlib.Omega.{arith}
use lib.Dec.{ltb}
use lib.ListN.{get_or}
use lib.Seq.{slice, length-slice}
use borrow.Author.Tests.{ltb-true, ltb-false}
use Rattle.laws.proofs.Tests.{decide}
use Rattle.laws.proofs.Ascending.{sorted_get_or}
use Rattle.laws.proofs.Ranges.{slice_at}
use Rattle.laws.proofs.Halving.{Ascends, Bracket, Halves, bracket_start, bracket-halves}
use Rattle.std.specs.Prelude.{Some, None}
use Rattle.tree_lookup.specs.LookUp.{Part, Found, middle_of, halving}
use Rattle.tree_lookup.proofs.Walked.{walked_at, walked_none}
use Rattle.tree_lookup.proofs.Looks.{most, after, after_one, after_none, none_before, look_none, look_hit, look_above, look_below}

-- after so many looks
pub record Narrowed (xs : List ℕ) (at count v low high looks : ℕ) : Type 0 where
  pub bracket : Bracket (λ (i : ℕ). get_or xs i 0) at (at + count) v (suc v) low high
  pub left : ℕ
  pub in_all : looks + left ≡ 5
  pub few : high ≤ low + most left
  pub so_far : halving 5 xs at (at + count) v ≡ after looks (halving left xs low high v)

-- what a look at the entry in the middle says
pub record Turn (xs : List ℕ) (at count v low high looks : ℕ) : Type 0 where
  pub spare : looks < 5
  pub inside : middle_of low high < at + count
  pub hit : get_or xs (middle_of low high) 0 ≡ v → Found xs at count v (record { place = Some (middle_of low high); looks = suc looks })
  pub above : get_or xs (middle_of low high) 0 < v → Narrowed xs at count v (middle_of low high + 1) high (suc looks)
  pub below : v < get_or xs (middle_of low high) 0 → Narrowed xs at count v low (middle_of low high) (suc looks)

module _ (xs : List ℕ) (at count v : ℕ) (part : Part xs at count) where
  apart : (i j : ℕ) → at ≤ i → i < j → j < at + count → get_or xs i 0 < get_or xs j 0
  apart i j l h u =
      let n = length-slice at (at + count) xs part.inside in
      let r = sorted_get_or ◌<◌ (slice at (at + count) xs) (i - at) (j - at) 0 (omega arith) (omega arith) part.ascending in
      omega (arith, slice_at xs at (at + count) i 0 l (omega arith), slice_at xs at (at + count) j 0 (omega arith) u)

  ascends : Ascends (λ (i : ℕ). get_or xs i 0) at (at + count)
  ascends i j l h u =
      ⊎_elim (λ (e : i ≡ j). omega (arith, ap (λ (k : ℕ). get_or xs k 0) e)) (λ (k : i < j). let r = apart i j l k u in omega arith) (eq-or-lt_of_le h)

  pub narrowed_start : Narrowed xs at count v at (at + count) 0
  narrowed_start =
      let few = part.few in
      record {
        bracket = bracket_start (λ (i : ℕ). get_or xs i 0) at (at + count) v (suc v) (omega arith);
        left = 5;
        in_all = refl;
        few = omega arith;
        so_far = none_before (halving 5 xs at (at + count) v);
      }

  -- where nothing is left, the address isn't there
  pub narrowed_end : (low high looks : ℕ) → Narrowed xs at count v low high looks → high ≤ low → Found xs at count v (record { place = None; looks = looks })
  narrowed_end low high looks n h =
      let k = n.bracket in
      let order = k.order in
      let none : (j : ℕ) → at ≤ j → j < at + count → get_or xs j 0 ≡ v → ⊥ =
      λ j l u e.
      ⊎_elim
      (λ (t : ltb j low ≡ true). let r = k.below j l (ltb-true j low t) in omega arith)
      (λ (f : ltb j low ≡ false). let q = ltb-false j low f in let r = k.above j (omega arith) u in omega arith)
      (decide (ltb j low)) in
      record {
        as_walked = sym (walked_none xs (at + count) v part.inside at (omega arith) none);
        by_halving = sym (n.so_far ∙ ap (after looks) (look_none n.left xs low high v h) ∙ after_none looks None);
        in_five = omega (arith, n.in_all);
      }

  -- ---- one look more

  module _ (low high looks : ℕ) (n : Narrowed xs at count v low high looks) (some : low < high) where
    abbrev middle : ℕ
    middle = middle_of low high

    -- there is a look left
    spare : (k : ℕ) × (n.left ≡ suc k)
    spare = go n.left refl
      where
        go : (k : ℕ) → n.left ≡ k → (j : ℕ) × (n.left ≡ suc j)
        go zero e = let few = n.few in let m = ap most e in absurd (omega arith)
        go (suc k) e = (k, e)

    abbrev rest : ℕ
    rest = spare.0

    in_all : suc looks + rest ≡ 5
    in_all = omega (arith, n.in_all, spare.1)

    few : high ≤ low + suc (most rest + most rest)
    few = omega (arith, n.few, ap most spare.1)

    so_far : halving 5 xs at (at + count) v ≡ after looks (halving (suc rest) xs low high v)
    so_far = n.so_far ∙ ap (λ (k : ℕ). after looks (halving k xs low high v)) spare.1

    inside : (at ≤ middle) × (middle < at + count)
    inside = let start = n.bracket.start in let end = n.bracket.end in (omega arith, omega arith)

    halves : Halves (λ (i : ℕ). get_or xs i 0) at (at + count) v (suc v) low high middle
    halves = bracket-halves (λ (i : ℕ). get_or xs i 0) at (at + count) v (suc v) low high middle ascends n.bracket (omega arith) (omega arith)

    hit : get_or xs middle 0 ≡ v → Found xs at count v (record { place = Some middle; looks = suc looks })
    hit e =
        record {
          as_walked =
              sym
              (walked_at xs (at + count) v part.inside at middle inside.0 inside.1 (λ j l u d. let r = apart j middle l u inside.1 in omega arith) e);
          by_halving =
              sym
              (so_far
              ∙ ap (after looks) (look_hit rest xs low high v some e)
              ∙ after_one looks (record { place = Some middle; looks = 0 })
              ∙ after_none (suc looks) (Some middle));
          in_five = omega (arith, in_all);
        }

    above : get_or xs middle 0 < v → Narrowed xs at count v (middle + 1) high (suc looks)
    above h =
        record {
          bracket = halves.0 h;
          left = rest;
          in_all = in_all;
          few = omega (arith, few);
          so_far =
              so_far
              ∙ ap (after looks) (look_above rest xs low high v some h)
              ∙ after_one looks (halving rest xs (suc middle) high v)
              ∙ ap (λ (k : ℕ). after (suc looks) (halving rest xs k high v)) (sym (add-one middle));
        }

    below : v < get_or xs middle 0 → Narrowed xs at count v low middle (suc looks)
    below h =
        record {
          bracket = halves.1 h;
          left = rest;
          in_all = in_all;
          few = omega (arith, few);
          so_far = so_far ∙ ap (after looks) (look_below rest xs low high v some h) ∙ after_one looks (halving rest xs low middle v);
        }

    pub turn : Turn xs at count v low high looks
    turn = record { spare = omega (arith, in_all); inside = inside.1; hit = hit; above = above; below = below }
