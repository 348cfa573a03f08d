-- `request::floats::float_of` meets its contract: bits below 7F800000 are those of a float, and so is 7F800000 itself.
use Rattle.laws.proofs.BoundExact.{from_bits_defined}
use Rattle.laws.proofs.Bits.{bits_below, bits_above}
use lib.Ieee.{nan_bits}
use Rattle.request.proofs.floats.float_of.Goals as goal

pub float_from_bits-result : goal.float_from_bits-result
float_from_bits-result c = from_bits_defined c.args.bits c.if-bits-lt2139095040.true

pub returns-then-bits-lt2139095040 : goal.returns-then-bits-lt2139095040
returns-then-bits-lt2139095040 c = bits_below c.args.bits c.if-bits-lt2139095040.true

pub float_from_bits-result-2 : goal.float_from_bits-result-2
unfolding nan_bits
float_from_bits-result-2 c = tt

pub returns : goal.returns
returns c = bits_above c.args.bits c.if-bits-lt2139095040.false
