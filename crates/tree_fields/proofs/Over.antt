-- What is held in numbers, as what a buffer has once it is put there.
use Prim.Native.Nat.{ℕ, ◌≤◌}
use native.Mathlib.Omega.{arith}
use mathlib.Core.Path.{◌≡◌, ap, ◌∙◌}
use mathlib.Core.List.{List, map}
use lib.ListN.{length, take, length-map}
use lib.Seq.{length-take-le}
use Rattle.model.specs.declared.TreeEntry.{TreeEntry}
use Rattle.model.specs.Lists.{over}
use Rattle.tree_fields.specs.Fields.{level, address, mark, cost, mark_of, cost_of, levels_of, Places}
use Rattle.tree_fields.specs.TreeResult.{Held}

-- more room does no harm
pub places-within : (count : ℕ) (starts : List ℕ) (n m : ℕ) → Places count starts n → n ≤ m → Places count starts m
places-within count starts n m p h =
    record {
      few = p.few;
      start_is = p.start_is;
      ascends = p.ascends;
      fits = λ i k. omega (arith, p.fits i k);
    }

module _ (w : List TreeEntry) (places n : ℕ) (addresses codes starts : List ℕ) (h : Held w places n addresses codes starts) where
  pub held-count : n ≡ length w
  held-count = omega (arith, length-take-le n addresses h.in_addresses, ap length h.addresses_are, length-map w address)

  module _ (old new : List ℕ) where
    pub levels-over : new ≡ over (levels_of places starts) old → new ≡ over (map level w) old
    levels-over e = e ∙ ap (λ (l : List ℕ). over l old) h.levels_are

    pub addresses-over : new ≡ over (take n addresses) old → new ≡ over (map address w) old
    addresses-over e = e ∙ ap (λ (l : List ℕ). over l old) h.addresses_are

    pub marks-over : new ≡ over (map mark_of (take n codes)) old → new ≡ over (map mark w) old
    marks-over e = e ∙ ap (λ (l : List ℕ). over l old) h.marks_are

    pub costs-over : new ≡ over (map cost_of (take n codes)) old → new ≡ over (map cost w) old
    costs-over e = e ∙ ap (λ (l : List ℕ). over l old) h.costs_are
