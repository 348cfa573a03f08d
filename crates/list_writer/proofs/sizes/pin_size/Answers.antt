-- `list_writer::sizes::pin_size` meets its contract: eight bytes for an entry constraint.
use mathlib.Core.Path.{sym}
use native.Mathlib.Omega.{arith}
use Rattle.list_writer.proofs.WrittenParts.{pin-long}
use Rattle.list_writer.proofs.sizes.pin_size.Goals as goal

pub returns-in-Some : goal.returns-in-Some
returns-in-Some c = (omega arith, sym (pin-long c.args.pin _ c.in-Some.is))
