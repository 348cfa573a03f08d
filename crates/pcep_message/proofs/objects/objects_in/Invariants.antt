-- `pcep_message::objects::objects_in` meets its contract. The loop's invariant is `Walked`; the measure is what is left of the message.
use Prim.Native.Nat.{◌-◌}
use lib.ListN.{length}
use Rattle.pcep_message.proofs.Walked.{Walked}
use Rattle.pcep_message.proofs.objects.objects_in.Given as goal

abbrev pub invariant-loop-at : goal.invariant-loop-at
invariant-loop-at l = Walked l.kind l.message l.at l.met

abbrev pub decreases-loop-at : goal.decreases-loop-at
decreases-loop-at l = length l.message - l.at
