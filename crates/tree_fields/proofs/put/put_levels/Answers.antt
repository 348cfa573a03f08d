-- `tree_fields::put::put_levels` meets its contract. The loop's invariant: the levels of the first i places are told.
use Prim.Native.Nat.{ℕ, ◌≤◌, ◌-◌}
use mathlib.Core.Path.{◌≡◌, ap, subst, sym, ◌∙◌}
use native.Mathlib.Omega.{arith}
use native.Mathlib.Numerals.{add-one}
use lib.ListN.{length, get_or, replicate}
use lib.Seq.{paste}
use Rattle.model.specs.Lists.{over}
use Rattle.tree_fields.specs.Fields.{levels_of}
use Rattle.tree_fields.proofs.Fields.{told_none, told-room, Told-more}
use Rattle.tree_fields.proofs.put.put_levels.Goals as goal

pub loop-i-init : goal.loop-i-init
loop-i-init c = let a = c.args in (told_none a.places a.starts.now a.level.now c.requires)

pub put_place-requires : goal.put_place-requires
put_place-requires c =
    let start = c in
    let l = c.loop-i in
    let a = c.args in
    let test = c.loop-i-test.true in
    subst (λ (m : ℕ). (get_or a.starts.now l.i 0 ≤ get_or a.starts.now m 0) × (get_or a.starts.now m 0 ≤ length l.level)) (sym (add-one l.i))
    (told-room a.places a.starts.now a.level.now c.requires l.level l.i l.invariant test)

pub loop-i-preserved : goal.loop-i-preserved
loop-i-preserved c =
    let start = c in
    let l = c.loop-i in
    let a = c.args in
    let test = c.loop-i-test.true in
    c.put_place.ensures
    ∙ subst (λ (m : ℕ). paste l.level (get_or a.starts.now l.i 0) (replicate (get_or a.starts.now m 0 - get_or a.starts.now l.i 0) l.i) (get_or a.starts.now m 0 - get_or a.starts.now l.i 0) ≡ over (levels_of m a.starts.now) a.level.now)
    (sym (add-one l.i))
    (Told-more a.places a.starts.now a.level.now c.requires l.level l.i l.invariant test)

pub returns : goal.returns
returns c =
    let l = c.loop-i in
    let a = c.args in
    let end : l.i ≡ a.places = omega arith in
    l.invariant ∙ ap (λ (k : ℕ). over (levels_of k a.starts.now) a.level.now) end
