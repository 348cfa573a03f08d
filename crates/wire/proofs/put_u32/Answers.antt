-- `wire::put_u32` meets its contract: std's four bytes of the number are the definition's.
use mathlib.Core.Path.{refl, ◌∙◌}
use native.Mathlib.Omega.{arith}
use Rattle.std.proofs.lemmas.Slice.{put_mid-paste}
use Rattle.model.specs.Bytes.{bytes_of}
use Rattle.wire.proofs.Numbers.{write_four}
use Rattle.wire.proofs.put_u32.Goals as goal

pub returns : goal.returns
unfolding bytes_of
returns c =
    let a = c.args in
    put_mid-paste a.at _ a.s.now _ (bytes_of 4 a.x) 4 (c.copy_from_slice.ensures.after ∙ c.to_be_bytes.ensures ∙ write_four a.x) (omega arith) refl
