-- `list_writer::writable::no_sequence` meets its contract: lists that fit together have a first mark and a first count where there is an index.
use native.Mathlib.Omega.{arith}
use mathlib.Core.Path.{sym, ◌∙◌}
use borrow.Author.Tests.{eqb-false}
use Rattle.laws.proofs.WrittenSizes.{together}
use Rattle.list_writer.proofs.writable.no_sequence.Goals as goal

pub first_marked-requires : goal.first_marked-requires
first_marked-requires c =
    let a = c.args in
    let t = together a.lent.indexes.now a.lent.marks.now a.lent.nodes.now a.lent.counts.now a.lent.exrs.now (sym c.unfit.ensures ∙ c.if-unfit.false) in
    let some = eqb-false _ _ (sym c.is_empty.ensures ∙ c.if-is_empty.false) in
    let marks = t.as_many_marks in
    let counts = t.as_many_counts in
    (omega arith, omega arith)
