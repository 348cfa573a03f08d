-- What the layout has that a profile's bytes say, whatever the bytes: its costs end at the limit, and its hops are few. By its definition, which no other law looks into.
use Prim.Native.Nat.{ℕ, ◌≤◌}
use native.Mathlib.Omega.{arith}
use mathlib.Core.List.{List}
use Rattle.model.specs.Profile.{cost_limit, layout_in}

pub cost_limited : (s : List ℕ) → (layout_in s).most_cost ≤ cost_limit
unfolding layout_in
cost_limited s = omega arith

pub few-hops : (s : List ℕ) → (layout_in s).most_hops ≤ 3000
unfolding layout_in
few-hops s = omega arith
