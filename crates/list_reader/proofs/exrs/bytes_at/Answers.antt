-- `list_reader::exrs::bytes_at` meets its contract: only type 33 is an EXRS, and an EXRS is all of its subobject.
use Prim.Native.Nat.{◌-◌}
use mathlib.Core.Path.{◌≡◌, sym, ap, ◌∙◌}
use native.Mathlib.Omega.{arith}
use borrow.Author.Tests.{eqb-true}
use Rattle.model.specs.Bytes.{part}
use Rattle.model.specs.Subobject.{length_at}
use Rattle.laws.proofs.ExrsSizes.{bytes_of_33, bytes_of_others}
use Rattle.list_reader.proofs.exrs.bytes_at.Goals as goal

pub returns-then-not-is_exrs : goal.returns-then-not-is_exrs
returns-then-not-is_exrs c =
    let a = c.args in
    record { inside = omega arith; those = sym (bytes_of_others a.list.now a.at (sym c.is_exrs.ensures ∙ c.if-not-is_exrs.true)) }

pub returns : goal.returns
returns c =
    let a = c.args in
    let n : a.next - a.at ≡ length_at a.list.now a.at = omega (arith, c.requires.2) in
    record { inside = omega arith; those = ap (part a.list.now a.at) n ∙ sym (bytes_of_33 a.list.now a.at (eqb-true _ 33 (sym c.is_exrs.ensures ∙ c.if-not-is_exrs.false))) }
