-- `tree_step::fill_level` meets its contract. The loop's invariant: the first j of the domain's entries are written, and nothing else.
use mathlib.Core.Path.{◌≡◌}
use Prim.Native.Nat.{◌-◌}
use lib.Seq.{paste}
use Rattle.laws.specs.Lists.{lists_of}
use Rattle.profile_records.specs.Layout.{layout_of}
use Rattle.tree_step.specs.Step.{level_codes}
use Rattle.tree_step.proofs.fill_level.Given as goal

abbrev pub invariant-loop-j : goal.invariant-loop-j
invariant-loop-j l = l.reaches ≡ paste l.initial.reaches l.step.leg.start (level_codes (layout_of l.step.layout) l.step.profile.now (lists_of l.step.include.now l.step.exclude.now) l.step.leg l.step.asked l.step.addresses.now l.initial.reaches) (l.j - l.step.leg.start)
