-- `list_subobject::item::named_at` meets its contract: the type says which fields `named_at` reads, and its length that they lie inside the list.
use Prim.Native.Nat.{ℕ, ◌+◌}
use mathlib.Core.Path.{sym, ap, ◌∙◌}
use native.Mathlib.Omega.{arith}
use lib.ListN.{get_or}
use Rattle.model.specs.Bytes.{part}
use Rattle.model.specs.Subobject.{prefix, system, area, stretch}
use Rattle.laws.proofs.Exrs.{named_33}
use Rattle.list_subobject.specs.Types.{number_of}
use Rattle.list_subobject.proofs.FormLaws.{room_1, room_5, room_6, room_7, named_1, named_5, named_6, named_7, named_32}
use Rattle.list_subobject.proofs.item.named_at.Goals as goal

pub u32_at-requires : goal.u32_at-requires
u32_at-requires c = omega (arith, room_1 c.requires (c.type_there.ensures ∙ ap number_of c.in-Prefix.is))

pub bounds-list-at : goal.bounds-list-at
bounds-list-at c = omega (arith, room_1 c.requires (c.type_there.ensures ∙ ap number_of c.in-Prefix.is))

pub returns-in-Prefix : goal.returns-in-Prefix
returns-in-Prefix c =
    let a = c.args in
    let s = a.list.now in
    record {
      named = ap (λ (x : ℕ). prefix x (get_or s (a.at + 6) 0)) c.u32_at.ensures ∙ sym (named_1 s a.at (c.type_there.ensures ∙ ap number_of c.in-Prefix.is));
      there = tt;
    }

pub u32_at-requires-in-WideSystem : goal.u32_at-requires-in-WideSystem
u32_at-requires-in-WideSystem c = omega (arith, room_5 c.requires (c.type_there.ensures ∙ ap number_of c.in-WideSystem.is))

pub returns-in-WideSystem : goal.returns-in-WideSystem
returns-in-WideSystem c =
    let a = c.args in
    let s = a.list.now in
    record { named = ap system c.u32_at-in-WideSystem.ensures ∙ sym (named_5 s a.at (c.type_there.ensures ∙ ap number_of c.in-WideSystem.is)); there = tt }

pub returns-in-OspfArea : goal.returns-in-OspfArea
returns-in-OspfArea c =
    let a = c.args in
    let e = c.type_there.ensures ∙ ap number_of c.in-OspfArea.is in
    record { named = sym (named_6 a.list.now a.at e); there = omega (arith, room_6 c.requires e) }

pub returns-in-IsisArea : goal.returns-in-IsisArea
returns-in-IsisArea c =
    let a = c.args in
    let s = a.list.now in
    let e = c.type_there.ensures ∙ ap number_of c.in-IsisArea.is in
    let h = room_7 c.requires e in
    let n = c.wide.ensures.0 in
    record {
      named = ap (λ (x : ℕ). area (record { kind = 2; bytes = part s (a.at + 4) x })) n ∙ sym (named_7 s a.at e);
      there = omega arith;
    }

pub returns-in-Exrs : goal.returns-in-Exrs
returns-in-Exrs c =
    let a = c.args in
    let s = a.list.now in
    let n = c.wide-in-Exrs.ensures.0 in
    let inside = c.requires.inside in
    record {
      named = ap (λ (x : ℕ). stretch (part s a.at x)) n ∙ sym (named_33 s a.at (c.type_there.ensures ∙ ap number_of c.in-Exrs.is));
      there = omega arith;
    }

pub returns-in-System : goal.returns-in-System
returns-in-System c =
    let a = c.args in
    record { named = ap system c.u16_at.ensures ∙ sym (named_32 a.list.now a.at (c.type_there.ensures ∙ ap number_of c.in-System.is)); there = tt }
