-- One look of the search by halving, and how many entries so many looks can settle: the one in the middle, and as many on each side as one look less. By the
-- tests of the definition.
use mathlib.Core.Path.{◌≡◌, refl, sym, ap, ◌∙◌}
use mathlib.Core.Bool.{Bool, true, false}
use mathlib.Core.List.{List}
use Prim.Native.Nat.{ℕ, zero, suc, ◌+◌, ◌≤◌, ◌<◌}
use native.Mathlib.Nat.{add-zero, zero-add}
use native.Mathlib.Omega.{arith}
use lib.ListN.{get_or}
use lib.Dec.{eqb, ltb}
use borrow.Author.Tests.{eq-eqb, ne_eqb, lt-ltb, le-ltb}
use Rattle.std.specs.Prelude.{Option, Some}
use Rattle.tree_lookup.specs.declared.LookUp.{LookUp}
use Rattle.tree_lookup.specs.LookUp.{unseen, counted, seen_if, side_if, look_if, middle_of, halving}

-- the most entries that k looks settle
abbrev pub most : ℕ → ℕ
most zero = 0
most (suc k) = suc (most k + most k)

-- a search that comes after some looks
abbrev pub after : ℕ → LookUp → LookUp
after n r = record { place = r.place; looks = n + r.looks }

-- nothing is left
pub look_none : (k : ℕ) (xs : List ℕ) (low high v : ℕ) → high ≤ low → halving k xs low high v ≡ unseen
unfolding halving
look_none zero xs low high v h = refl
look_none (suc k) xs low high v h =
    let middle = middle_of low high in
    let here = get_or xs middle 0 in
    ap (λ (b : Bool). look_if b (seen_if (eqb here v) middle (side_if (ltb here v) (halving k xs (suc middle) high v) (halving k xs low middle v)))) (le-ltb low high h)

pub after_one : (n : ℕ) (r : LookUp) → after n (counted r) ≡ after (suc n) r
after_one n r = let e : n + suc r.looks ≡ suc n + r.looks = omega arith in ap (λ (m : ℕ). record { place = r.place; looks = m }) e

pub after_none : (n : ℕ) (p : Option ℕ) → after n (record { place = p; looks = 0 }) ≡ record { place = p; looks = n }
after_none n p = ap (λ (m : ℕ). record { place = p; looks = m }) (add-zero n)

pub none_before : (r : LookUp) → r ≡ after 0 r
none_before r = ap (λ (m : ℕ). record { place = r.place; looks = m }) (sym (zero-add r.looks))

-- something is left, and the entry in the middle is looked at
module _ (k : ℕ) (xs : List ℕ) (low high v : ℕ) (some : low < high) where
  abbrev middle : ℕ
  middle = middle_of low high

  abbrev here : ℕ
  here = get_or xs middle 0

  -- what is left of the search on its side
  abbrev side : Bool → LookUp
  side b = side_if b (halving k xs (suc middle) high v) (halving k xs low middle v)

  one_look : halving (suc k) xs low high v ≡ seen_if (eqb here v) middle (side (ltb here v))
  unfolding halving
  one_look = ap (λ (b : Bool). look_if b (seen_if (eqb here v) middle (side (ltb here v)))) (lt-ltb low high some)

  pub look_hit : here ≡ v → halving (suc k) xs low high v ≡ counted (record { place = Some middle; looks = 0 })
  look_hit e = one_look ∙ ap (λ (b : Bool). seen_if b middle (side (ltb here v))) (eq-eqb here v e)

  look_other : (here ≡ v → ⊥) → (b : Bool) → ltb here v ≡ b → halving (suc k) xs low high v ≡ counted (side b)
  look_other d b e = one_look ∙ ap (λ (b : Bool). seen_if b middle (side (ltb here v))) (ne_eqb here v d) ∙ ap (λ (b : Bool). counted (side b)) e

  pub look_above : here < v → halving (suc k) xs low high v ≡ counted (halving k xs (suc middle) high v)
  look_above l = look_other (λ e. omega arith) true (lt-ltb here v l)

  pub look_below : v < here → halving (suc k) xs low high v ≡ counted (halving k xs low middle v)
  look_below l = look_other (λ e. omega arith) false (le-ltb here v (omega arith))
