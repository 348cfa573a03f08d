-- `list_writer::writable::unwritable` meets its contract: what the lists say, then whether the EXRS are too many, some are broken, or the list is too long.
use mathlib.Core.Path.{sym, ap, ◌∙◌}
use mathlib.Core.Bool.{true, false}
use native.Mathlib.Omega.{arith}
use lib.Dec.{ltb}
use Rattle.model.specs.Profile.{layout_in}
use Rattle.laws.proofs.Accepted.{accepted}
use Rattle.list_writer.proofs.Unwritable.{by_lists, joined, fitting, long-exrs, by_parts}
use Rattle.list_writer.proofs.writable.unwritable.Goals as goal
use Rattle.list_writer.proofs.writable.unwritable.Goals.{then-no_sequence-via-then-no_sequence, then-no_sequence-via-else-no_sequence+then-lent-gt1024}

pub u16_at-domains-requires : goal.u16_at-domains-requires
u16_at-domains-requires c =
    let p = c.args.profile.now in
    let header = (accepted (layout_in p) p c.requires).has_header in
    omega arith

pub returns-then-no_sequence : goal.returns-then-no_sequence
returns-then-no_sequence c =
    let a = c.args in
    elim c.then-no_sequence.branch [
      | then-no_sequence-via-then-no_sequence w ↦ sym (by_lists a.profile.now a.lent.indexes.now a.lent.marks.now a.lent.nodes.now a.lent.counts.now a.lent.exrs.now _ c.u16_at-domains.ensures (sym c.no_sequence.ensures ∙ w.if-no_sequence.true))
      | then-no_sequence-via-else-no_sequence+then-lent-gt1024 w ↦ sym (long-exrs a.profile.now a.lent.indexes.now a.lent.marks.now a.lent.nodes.now a.lent.counts.now a.lent.exrs.now _ c.u16_at-domains.ensures (sym c.no_sequence.ensures ∙ w.if-no_sequence.false) w.if-lent-gt1024.true)
    ]

pub some_part_broken-requires : goal.some_part_broken-requires
some_part_broken-requires c =
    let a = c.args in
    ((joined a.profile.now a.lent.indexes.now a.lent.marks.now a.lent.nodes.now a.lent.counts.now a.lent.exrs.now _ c.u16_at-domains.ensures (sym c.no_sequence.ensures ∙ c.if-no_sequence.false)).all_bytes, c.if-lent-gt1024.false)

pub list_size-requires : goal.list_size-requires
list_size-requires c =
    let a = c.args in
    (fitting a.profile.now a.lent.indexes.now a.lent.marks.now a.lent.nodes.now a.lent.counts.now a.lent.exrs.now _ c.u16_at-domains.ensures (sym c.no_sequence.ensures ∙ c.if-no_sequence.false) c.requires, c.if-lent-gt1024.false)

pub returns-then-some_part_broken : goal.returns-then-some_part_broken
returns-then-some_part_broken c =
    let a = c.args in
    c.if-some_part_broken.true
    ∙ sym (by_parts a.profile.now a.lent.indexes.now a.lent.marks.now a.lent.nodes.now a.lent.counts.now a.lent.exrs.now _ c.u16_at-domains.ensures (sym c.no_sequence.ensures ∙ c.if-no_sequence.false) true (sym c.some_part_broken.ensures ∙ c.if-some_part_broken.true))

pub returns-else-some_part_broken : goal.returns-else-some_part_broken
returns-else-some_part_broken c =
    let a = c.args in
    ap (ltb 1024) c.list_size.ensures.1
    ∙ sym (by_parts a.profile.now a.lent.indexes.now a.lent.marks.now a.lent.nodes.now a.lent.counts.now a.lent.exrs.now _ c.u16_at-domains.ensures (sym c.no_sequence.ensures ∙ c.if-no_sequence.false) false (sym c.some_part_broken.ensures ∙ c.if-some_part_broken.false))
