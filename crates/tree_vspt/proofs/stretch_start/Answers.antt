-- `tree_vspt::stretch_start` meets its contract: the first domain's stretch starts with the list, any other's where the one before it was named.
use mathlib.Core.Path.{◌≡◌, refl, ap}
use mathlib.Core.List.{List}
use Prim.Native.Nat.{ℕ, zero, suc, ◌-◌}
use native.Mathlib.Omega.{arith}
use Rattle.model.specs.declared.NamedStop.{NamedStop}
use Rattle.laws.specs.Stops.{named_in, stretch_start}
use Rattle.tree_vspt.proofs.stretch_start.Goals as goal

later : (stops : List NamedStop) (i : ℕ) → (i ≡ 0 → ⊥) → named_in stops (i - 1) ≡ stretch_start stops i
later stops zero d = absurd (d refl)
later stops (suc i) d = let e : suc i - 1 ≡ i = omega arith in ap (named_in stops) e

pub returns : goal.returns
returns c =
    let a = c.args in
    later a.stops.now a.i c.if-i-eq0.false
