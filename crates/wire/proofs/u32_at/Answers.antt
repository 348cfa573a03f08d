-- `wire::u32_at` meets its contract: std's number of four bytes is the definition's.
use mathlib.Core.Path.{◌∙◌}
use Rattle.wire.proofs.Numbers.{read_four}
use Rattle.wire.proofs.u32_at.Goals as goal

pub returns : goal.returns
returns c = c.from_be_bytes.ensures ∙ read_four c.args.s.now c.args.at
