-- `path_series::form::malformed` meets its contract: the four tests of the definition, in its order.
use mathlib.Core.Path.{sym, ap, ◌∙◌}
use mathlib.Core.Bool.{not}
use Rattle.path_series.proofs.Forms.{by_kind, by_counts, by_sums, by_numbers}
use Rattle.path_series.proofs.form.malformed.Goals as goal
use Rattle.path_series.proofs.form.malformed.Goals.{then-unknown_kind-via-then-unknown_kind, then-unknown_kind-via-else-unknown_kind+then-kinds-sizes}

pub returns-then-unknown_kind : goal.returns-then-unknown_kind
returns-then-unknown_kind c =
    let a = c.args in
    elim c.then-unknown_kind.branch [
      | then-unknown_kind-via-then-unknown_kind w ↦ sym (by_kind a.kinds.now a.sizes.now a.buffers a.numbers (sym c.unknown_kind.ensures ∙ w.if-unknown_kind.true))
      | then-unknown_kind-via-else-unknown_kind+then-kinds-sizes w ↦ sym (by_counts a.kinds.now a.sizes.now a.buffers a.numbers w.if-kinds-sizes.true)
    ]

pub returns-then-not-adds_up : goal.returns-then-not-adds_up
returns-then-not-adds_up c =
    let a = c.args in
    ap not c.if-not-adds_up.true ∙ sym (by_sums a.kinds.now a.sizes.now a.buffers a.numbers (sym c.adds_up.ensures ∙ c.if-not-adds_up.true))

pub returns-else-not-adds_up : goal.returns-else-not-adds_up
returns-else-not-adds_up c =
    let a = c.args in
    sym (by_numbers a.kinds.now a.sizes.now a.buffers a.numbers (sym c.unknown_kind.ensures ∙ c.if-unknown_kind.false) c.if-kinds-sizes.false (sym c.adds_up.ensures ∙ c.if-not-adds_up.false))
