-- `list_writer::writable::some_twice` meets its contract. The loop's invariant: the indexes from i on are all different just when all are.
use mathlib.Core.Path.{◌≡◌, sym, ap, ◌∙◌}
use mathlib.Core.Bool.{not}
use Prim.Native.Nat.{ℕ, ◌+◌, ◌-◌}
use lib.Dec.{eqb}
use lib.ListN.{length, get_or, take, drop, length-drop}
use native.Mathlib.Omega.{arith}
use lib.Seq.{take_all}
use Rattle.std.specs.List.{list_any}
use Rattle.model.specs.Lists.{among}
use Rattle.list_writer.proofs.Scans.{among_by, different_hit, different_miss, different-end}
use Rattle.list_writer.proofs.writable.some_twice.Goals as goal
use Rattle.list_writer.proofs.writable.some_twice.Goals.{After-contains}

found : (c : After-contains) → c.contains.result ≡ among (get_or c.args.indexes.now c.loop-i.i 0) (drop (c.loop-i.i + 1) c.args.indexes.now)
found c =
    let x = get_or c.args.indexes.now c.loop-i.i 0 in
    let rest = drop (c.loop-i.i + 1) c.args.indexes.now in
    let n : ℕ = length c.args.indexes.now - (c.loop-i.i + 1) in
    let by : c.contains.result ≡ list_any (λ (y : ℕ). eqb y x) (take n rest) = c.contains.ensures.value in
    by ∙ ap (list_any (λ (y : ℕ). eqb y x)) (take_all n rest (omega (arith, length-drop (c.loop-i.i + 1) c.args.indexes.now))) ∙ among_by x rest

pub returns-then-contains : goal.returns-then-contains
returns-then-contains c =
    let l = c.loop-i in
    sym (different_hit c.args.indexes.now l.i c.loop-i-test.true (sym (found (goal.at.returns-then-contains c).After-contains) ∙ c.if-contains.true)) ∙ ap not l.invariant

pub loop-i-preserved : goal.loop-i-preserved
loop-i-preserved c =
    let l = c.loop-i in
    sym (different_miss c.args.indexes.now l.i c.loop-i-test.true (sym (found (goal.at.loop-i-preserved c).After-contains) ∙ c.if-contains.false)) ∙ l.invariant

pub returns : goal.returns
returns c = sym (ap not (sym c.loop-i.invariant ∙ different-end c.args.indexes.now c.loop-i.i c.loop-i-test.false))
