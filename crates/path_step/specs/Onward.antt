-- The hop records by which a shortest path goes on from an entry, those of them that are wanted, and the first of these.
use Rattle.std.specs.Prelude.{◌≡◌, Bool, true, false, ◌&&◌, List, ℕ, suc, ◌<◌, eqb, ltb, drop, Option, Some, None, MatchOption}
use mathlib.Core.List.{head?}
use Rattle.std.proofs.Math.Option.{none, some}
use Rattle.std.proofs.Math.Seq.{slice}
use Rattle.model.specs.declared.Hop.{Hop}
use Rattle.model.specs.Lists.{keep}
use Rattle.model.specs.Floats.{at_least, in_range}
use Rattle.model.specs.Request.{Search}
use Rattle.model.specs.Path.{Leg, legs, leg_at}
use Rattle.laws.specs.Descent.{on_shortest, shortest_hops}
use Rattle.tree_reaches.specs.Reaches.{unreachable, reach_of, beside, NextPlace}
use Rattle.path_step.specs.declared.Heads.{Heads}
use Rattle.path_step.specs.declared.Heads.TheVariants.{Any, Only, Above}
use Rattle.path_step.specs.declared.Judge.{Judge}
use Rattle.path_step.specs.declared.Onward.{Onward}
use Rattle.path_step.specs.Worked.{Stands}

-- a head is wanted
abbrev pub is_wanted : Heads → ℕ → Bool
is_wanted Any v = true
is_wanted (Only y) v = eqb v y.0
is_wanted (Above y) v = ltb y.0 v

abbrev pub wanted_hops : Heads → List Hop → List Hop
wanted_hops which hs = keep (λ (h : Hop). is_wanted which h.head.0) hs

-- the nodes of the next place, the numbers beside them, and the one beside an address
abbrev pub next_nodes : Judge → List ℕ
next_nodes by = slice by.from by.to by.levels.now.addresses

abbrev pub next_codes : Judge → List ℕ
next_codes by = slice by.from by.to by.reaches.now

abbrev pub left_at : Judge → ℕ → ℕ
left_at by v = beside (next_nodes by) (next_codes by) v

-- by this a hop record can be judged
pub record Fit (by : Judge) : Type 0 where
  pub bandwidth-right : in_range by.asked ≡ true
  pub reached : by.here < unreachable
  pub next_place : NextPlace by.levels.now.addresses by.reaches.now by.from by.to

-- a hop record that leaves the entry is taken: its bandwidth is enough, its head is wanted, and it lies on a shortest way, by the numbers of the next place
abbrev pub is_taken : Judge → Hop → Bool
is_taken by h = at_least by.asked h.bandwidth && (is_wanted by.which h.head.0 && on_shortest (reach_of by.here) h (reach_of (left_at by h.head.0)))

-- and then the path goes on by it
abbrev pub onward : Judge → Hop → Onward
onward by h = record { head = h.head; reach = left_at by h.head.0 }

abbrev pub onward_if : Bool → Onward → Option Onward
onward_if true on = Some on
onward_if false on = None

-- the legs left at place i, and the hops on a shortest way from an address there
abbrev pub legs_from : Search → ℕ → List Leg
legs_from S i = drop i (legs S.sequence)

abbrev pub shortest_at : Search → ℕ → ℕ → List Hop
shortest_at S i a = shortest_hops S (leg_at S i) (legs_from S (suc i)) i a

-- the first taken of some hop records
pub record TakenFirst (by : Judge) (hs : List Hop) (on : Onward) : Type 0 where
  pub hop : Hop
  pub first : head? (keep (is_taken by) hs) ≡ some hop
  pub is : on ≡ onward by hop

abbrev pub FirstTaken : Judge → List Hop → Option Onward → Type 0
FirstTaken by hs r = MatchOption r (head? (keep (is_taken by) hs) ≡ none) (TakenFirst by hs)

-- the first wanted hop on a shortest way from an address at place i: its head, and the number there
pub record HopOn (S : Search) (i a : ℕ) (which : Heads) (on : Onward) : Type 0 where
  pub hop : Hop
  pub first : head? (wanted_hops which (shortest_at S i a)) ≡ some hop
  pub head-is : hop.head ≡ on.head
  pub stands : Stands S (suc i) on.head.0 on.reach

abbrev pub OnwardIs : Search → ℕ → ℕ → Heads → Option Onward → Type 0
OnwardIs S i a which r = MatchOption r (head? (wanted_hops which (shortest_at S i a)) ≡ none) (HopOn S i a which)
