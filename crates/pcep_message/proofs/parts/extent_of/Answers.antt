-- `pcep_message::parts::extent_of` meets its contract: the object that is there stands in the message.
use native.Mathlib.Omega.{arith}
use Rattle.pcep_message.proofs.parts.extent_of.Goals as goal

pub u16_at-n-requires : goal.u16_at-n-requires
u16_at-n-requires c = omega (arith, (c.requires.2 _ c.in-Some.is).head)
