-- Look-ups worked out by hand among 16 entries, 10 to 160, that stand from place 2 on with other numbers before and behind them; and among none. By computing.
use mathlib.Core.Path.{◌≡◌, refl}
use mathlib.Core.List.{List, [], ◌∷◌}
use Prim.Native.Nat.{ℕ}
use Rattle.std.specs.Prelude.{Option, Some, None}
use Rattle.tree_lookup.specs.LookUp.{halving}

abbrev tens : List ℕ
tens =
    90 ∷ 10
    ∷ 10 ∷ 20 ∷ 30 ∷ 40 ∷ 50 ∷ 60 ∷ 70 ∷ 80
    ∷ 90 ∷ 100 ∷ 110 ∷ 120 ∷ 130 ∷ 140 ∷ 150 ∷ 160
    ∷ 165 ∷ 5 ∷ []

-- an address found at a place, or nowhere, with so many looks
abbrev Settles : ℕ → ℕ → Option ℕ → ℕ → Type 0
Settles end v place looks = halving 5 tens 2 end v ≡ record { place = place; looks = looks }

-- the one in the middle, the two that are looked at next, the last and the first
middle : Settles 18 90 (Some 10) 1
unfolding halving
middle = refl

below : Settles 18 50 (Some 6) 2
unfolding halving
below = refl

above : Settles 18 130 (Some 14) 2
unfolding halving
above = refl

last : Settles 18 160 (Some 17) 4
unfolding halving
last = refl

-- so four looks are not enough for 16
first : Settles 18 10 (Some 2) 5
unfolding halving
first = refl

-- before the first, between two, behind the last; where there is no entry there is no look
before_all : Settles 18 5 None 5
unfolding halving
before_all = refl

between : Settles 18 115 None 4
unfolding halving
between = refl

behind_all : Settles 18 165 None 4
unfolding halving
behind_all = refl

nothing : Settles 2 10 None 0
unfolding halving
nothing = refl
