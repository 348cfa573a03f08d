-- `list_include::read_list` meets its contract. The loop's invariant: the rest of the list, read from the state at hand, means what the whole list means. The measure is what is left of the list.
use mathlib.Core.Path.{◌≡◌}
use Prim.Native.Nat.{◌≤◌, ◌-◌}
use lib.ListN.{length}
use Rattle.model.specs.Verdict.{Pass}
use Rattle.model.specs.declared.ListKind.TheVariants.{Include}
use Rattle.model.specs.Request.{reading_input}
use Rattle.model.specs.Sequence as M
use Rattle.laws.specs.Left.{form_left, subobjects_left}
use Rattle.list_include.specs.Reading.{state_of, SoundState, Standing}
use Rattle.list_include.proofs.read_list.Given as goal

abbrev pub invariant-loop-at : goal.invariant-loop-at
invariant-loop-at l =
    (l.at ≤ length l.list)
    × SoundState l.st
    × (form_left Include l.list l.at ≡ Pass)
    × (M.read_all (reading_input l.profile) (subobjects_left l.list l.at) (state_of l.list l.at l.st) ≡ M.read_all (reading_input l.profile) (subobjects_left l.list 0) (state_of l.list 0 l.initial.st))
    × Standing l.list l.at l.st

abbrev pub decreases-loop-at : goal.decreases-loop-at
decreases-loop-at l = length l.list - l.at
