-- `path_series::form::adds_up` meets its contract. The loop's invariant: the sizes passed and what is left of the whole make the whole.
use Prim.Native.Nat.{◌+◌}
use mathlib.Core.Path.{◌≡◌}
use lib.ListN.{drop}
use Rattle.model.specs.Lists.{sum}
use Rattle.path_series.proofs.form.adds_up.Given as goal

abbrev pub invariant-loop-size : goal.invariant-loop-size
invariant-loop-size l = sum l.sizes + l.left ≡ l.whole + sum (drop l.size-index l.sizes)
