-- `tree_vspt::next_domain` meets its contract: the two answers of the test.
use mathlib.Core.Path.{sym, ap, ◌∙◌}
use mathlib.Core.Bool.{Bool}
use native.Mathlib.Numerals.{add-one}
use native.Mathlib.Omega.{arith}
use Prim.Native.Nat.{ℕ, suc}
use borrow.Author.Tests.{lt-ltb, le-ltb}
use Rattle.laws.specs.Stops.{stop_at}
use Rattle.tree_vspt.specs.Leg.{next_if}
use Rattle.tree_vspt.proofs.next_domain.Goals as goal

pub returns-then-next-count : goal.returns-then-next-count
returns-then-next-count c =
    let a = c.args in
    let e = lt-ltb (suc a.i) a.count (omega arith) in
    ap (λ (n : ℕ). (stop_at a.stops.now n).domain) (add-one a.i ∙ sym (ap (λ (b : Bool). next_if b a.i) e))

pub returns : goal.returns
returns c =
    let a = c.args in
    let e = le-ltb (suc a.i) a.count (omega arith) in
    ap (λ (n : ℕ). (stop_at a.stops.now n).domain) (sym (ap (λ (b : Bool). next_if b a.i) e))
