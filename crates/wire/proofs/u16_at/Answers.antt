-- `wire::u16_at` meets its contract: std's number of two bytes is the definition's.
use mathlib.Core.Path.{◌∙◌}
use Rattle.wire.proofs.Numbers.{read_two}
use Rattle.wire.proofs.u16_at.Goals as goal

pub returns : goal.returns
returns c = c.from_be_bytes.ensures ∙ read_two c.args.s.now c.args.at
