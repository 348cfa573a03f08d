-- `request::floats::in_range` meets its contract, by the range as a program tests it: first `x != x`, then the bits.
use mathlib.Core.Path.{sym}
use Rattle.laws.proofs.BoundExact.{nan_out_of_range, in_range_by_bits, to_bits_defined}
use Rattle.request.proofs.floats.in_range.Goals as goal

pub returns-then-x : goal.returns-then-x
returns-then-x c = sym (nan_out_of_range c.args.x c.if-x.true)

pub float_to_bits-result : goal.float_to_bits-result
float_to_bits-result c = to_bits_defined c.args.x c.if-x.false

pub returns : goal.returns
returns c = sym (in_range_by_bits c.args.x c.if-x.false)
