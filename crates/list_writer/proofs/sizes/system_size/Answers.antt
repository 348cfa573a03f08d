-- `list_writer::sizes::system_size` meets its contract: nothing for the AS before, else eight bytes.
use mathlib.Core.Path.{sym}
use native.Mathlib.Omega.{arith}
use Rattle.list_writer.proofs.WrittenParts.{system-long}
use Rattle.list_writer.proofs.sizes.system_size.Goals as goal

pub returns-else-again : goal.returns-else-again
returns-else-again c = (omega arith, λ asn. sym (system-long c.args.again asn c.if-again.false))
