-- `list_subobject::item::item_at` meets its contract: the subobject lies inside the list, so its fields can be read.
use mathlib.Core.Path.{refl}
use native.Mathlib.Omega.{arith}
use Rattle.model.specs.Subobject.{type_at, area_length_at, length_at}
use Rattle.laws.proofs.Walk.{length-least}
use Rattle.list_subobject.proofs.item.item_at.Goals as goal

pub returns : goal.returns
returns c =
    let a = c.args in
    let s = a.list.now in
    let h = c.requires in
    let n = c.next_at.ensures in
    let l = length-least h.kind (type_at s a.at) (area_length_at s a.at) (length_at s a.at) h.fits in
    let i = h.inside in
    let named = c.named_at.ensures in
    record {
      offset = refl;
      top = refl;
      named = named.named;
      next = n;
      further = omega arith;
      inside = omega arith;
      there = named.there;
    }
