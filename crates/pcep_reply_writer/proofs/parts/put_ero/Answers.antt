-- `pcep_reply_writer::parts::put_ero` meets its contract: the object's header, and the addresses behind it.
use mathlib.Core.Path.{refl}
use native.Mathlib.Omega.{arith}
use Rattle.pcep_reply_writer.proofs.Objects.{ero-put}
use Rattle.pcep_reply_writer.proofs.parts.put_ero.Goals as goal

pub returns : goal.returns
returns c =
    let a = c.args in
    ero-put a.addresses.now a.at _ _ a.out.now _ _ _ (omega arith) refl
    c.put_u16.ensures
    c.put_u16-2.ensures
    c.put_steps.ensures
