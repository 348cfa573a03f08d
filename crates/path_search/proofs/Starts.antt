-- What the recursion of the law does for each way in which a given list may start. By the cases of the list.
use mathlib.Core.Path.{◌≡◌, refl}
use mathlib.Core.Bool.{Bool, true, false}
use mathlib.Core.List.{List, [], ◌∷◌}
use mathlib.Core.Option.{Option, none}
use Prim.Native.Nat.{ℕ, ◌≤◌}
use native.Mathlib.Omega.{arith}
use lib.Dec.{eqb, ltb}
use Rattle.std.specs.Prelude.{cond}
use lib.ListN.{length, drop}
use Rattle.std.specs.declared.cmp.Ordering.{Ordering}
use Rattle.std.specs.declared.cmp.Ordering.TheVariants.{Less, Equal, Greater}
use Rattle.model.specs.Request.{Search}
use Rattle.model.specs.Path.{Leg, Route}
use Rattle.laws.specs.Descent.{first_from, next_after, next_by, next_from}
use Rattle.path_search.specs.Searched.{start_of}

abbrev pub by : Ordering → Option Route → Option Route → Option Route
by Less first deeper = first
by Equal first deeper = deeper
by Greater first deeper = none

pub next_by_lem : (S : Search) (ls : List Leg) (i a : ℕ) (given : List ℕ) → next_from S ls i a given ≡ by (start_of given a) (first_from S ls i a) (next_after S ls i a (drop 1 given))
unfolding next_from
next_by_lem S ls i a [] = refl
next_by_lem S ls i a (x ∷ g) = go (ltb x a) (eqb x a)
  where
    go : (b e : Bool) → next_by b e (first_from S ls i a) (next_after S ls i a g) ≡ by (cond b Less (cond e Equal Greater)) (first_from S ls i a) (next_after S ls i a g)
    go true e = refl
    go false true = refl
    go false false = refl

-- a list that starts with the source isn't empty
pub same_some : (given : List ℕ) (a : ℕ) → start_of given a ≡ Equal → 1 ≤ length given
same_some [] a e = let z : ◌≡◌ {A = ℕ} 0 1 = cc in absurd (omega arith)
same_some (x ∷ g) a e = omega arith
