-- `pcep_ero::address_count` meets its contract: each address has 8 bytes of the body.
use native.Mathlib.Omega.{arith}
use Rattle.pcep_ero.proofs.Addresses.{eight_each}
use Rattle.pcep_ero.proofs.address_count.Goals as goal

pub returns : goal.returns
returns c = omega (arith, eight_each c.args.body.now c.requires)
