-- `list_include::named_domains::scan` meets its contract. The loop's invariant: the domains below i are scanned, for whatever the test says.
use mathlib.Core.Path.{◌≡◌}
use mathlib.Core.Bool.{Bool}
use Prim.Native.Nat.{ℕ, ◌≤◌, ◌<◌}
use Rattle.list_include.proofs.Hits.{Hits}
use Rattle.list_include.proofs.named_domains.scan.Given as goal

abbrev pub invariant-loop-i : goal.invariant-loop-i
invariant-loop-i g l =
    (l.hits ≤ l.i) × (l.last ≤ 64) × ((p : ℕ → Bool) → ((i : ℕ) (b : Bool) → i < l.n → goal.F-post g l.test i b → b ≡ p i) → Hits p l.n l.i l.hits l.last)
