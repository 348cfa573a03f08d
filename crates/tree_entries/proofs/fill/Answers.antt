-- `tree_entries::fill` meets its contract: a turn writes one entry more over the lent list (`Filled`).
use mathlib.Core.Path.{◌≡◌, sym, ap, ◌∙◌}
use mathlib.Core.List.{◌++◌}
use native.Mathlib.Omega.{arith}
use native.Mathlib.Numerals.{add-one}
use lib.ListN.{take, drop, set}
use lib.Seq.{length-take-le}
use Rattle.laws.proofs.Lists.{over_nothing}
use Rattle.tree_entries.proofs.Filled.{after, after_next, after_all}
use Rattle.tree_entries.proofs.fill.Goals as goal

pub loop-i-init : goal.loop-i-init
loop-i-init c = sym (over_nothing (take c.args.n c.args.entries.now))

pub loop-i-preserved : goal.loop-i-preserved
loop-i-preserved c =
    let a = c.args in
    let t = a.tree in
    let l = c.loop-i in
    let k = length-take-le a.n a.entries.now c.requires.1 in
    let e = after_next a.n t.level t.addresses t.reaches (take a.n a.entries.now) l.i (omega arith) (omega arith) in
    let next = after a.n t.level t.addresses t.reaches (take a.n a.entries.now) in
    ap (λ xs. set xs l.i c.entry_of.result) l.invariant
    ∙ ap (set (next l.i) l.i) c.entry_of.ensures
    ∙ e
    ∙ ap next (sym (add-one l.i))

pub returns : goal.returns
returns c =
    let a = c.args in
    let t = a.tree in
    let l = c.loop-i in
    let k = length-take-le a.n a.entries.now c.requires.1 in
    let done : l.i ≡ a.n = omega arith in
    ap (λ xs. xs ++ drop a.n a.entries.now) (l.invariant ∙ ap (after a.n t.level t.addresses t.reaches (take a.n a.entries.now)) done)
    ∙ after_all a.n t.level t.addresses t.reaches a.entries.now c.requires.1
