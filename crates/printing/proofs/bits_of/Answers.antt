-- `printing::bits_of` meets its contract: of a NaN the definition gives the usual bits.
use mathlib.Core.Path.{◌≡◌, refl, sym}
use mathlib.Core.Bool.{true}
use lib.Ieee.{Float, nan, inf, fin, binary32, is_nan, to_bits}
use Rattle.printing.proofs.bits_of.Goals as goal

usual : (x : Float) → is_nan x ≡ true → 0x7fc00000 ≡ to_bits binary32 x
unfolding is_nan to_bits
usual nan e = refl
usual (inf s) e = absurd (cc)
usual (fin s m k) e = absurd (cc)

pub returns-then-is_nan : goal.returns-then-is_nan
returns-then-is_nan c = usual c.args.float (sym c.if-is_nan.ensures.value)
