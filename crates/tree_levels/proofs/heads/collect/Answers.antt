-- `tree_levels::heads::collect` meets its contract. A turn leaves the heads of one record more in the cells (`Held`).
use Prim.Native.Nat.{ℕ, ◌+◌, ◌≤◌, ◌<◌}
use native.Mathlib.Omega.{arith}
use mathlib.Core.Path.{◌≡◌, ap, sym, subst, ◌∙◌}
use lib.ListN.{length}
use Rattle.model.specs.Profile.{hop_count}
use Rattle.profile_records.specs.Layout.{layout_of, HopWithin}
use Rattle.profile_records.proofs.AcceptedHops.{hop-inside}
use Rattle.tree_levels.specs.Entries.{heads_of}
use Rattle.tree_levels.proofs.Placing.{length-placed}
use Rattle.tree_levels.proofs.Held.{Holds, heads_grow, holds_none, holds-known, holds-put, length_next, head_read, next_start}
use Rattle.tree_levels.proofs.heads.collect.Goals as goal
use Rattle.tree_levels.proofs.heads.collect.Goals.{In-loop, Joined-not-is_at, then-not-is_at, else-not-is_at}

pub returns-then-last-first : goal.returns-then-last-first
returns-then-last-first c =
    let a = c.args in
    let same : a.last ≡ a.first = omega arith in
    let none = holds_none (layout_of a.layout) a.s.now a.first a.from a.addresses.now in
    record { value = rw same none.ends; addresses_after = rw same none.cells }

pub hop_start-start-requires : goal.hop_start-start-requires
hop_start-start-requires c =
    let a = c.args in
    hop-inside (layout_of a.layout) a.s.now c.requires.right_profile a.first (omega arith)

pub loop-init : goal.loop-init
loop-init c =
    let a = c.args in
    (c.hop_start-start.ensures, omega arith, holds_none (layout_of a.layout) a.s.now a.first a.from a.addresses.now)

-- the record of a turn lies in the file
inside
    : (c : In-loop)
    → HopWithin (layout_of c.args.layout) c.args.s.now c.loop.counter
inside c =
    let a = c.args in
    hop-inside (layout_of a.layout) a.s.now c.requires.right_profile c.loop.counter (omega arith)

pub overflow_add-start : goal.overflow_add-start
overflow_add-start c =
    let w = inside (goal.at.overflow_add-start c).In-loop in
    let start = c.loop.invariant.0 in
    omega (arith, w.inside, w.layout.fields, c.well_formed.0)

pub u32_at-requires : goal.u32_at-requires
u32_at-requires c =
    let w = inside (goal.at.u32_at-requires c).In-loop in
    let start = c.loop.invariant.0 in
    omega (arith, w.inside, w.layout.fields)

pub is_at-requires : goal.is_at-requires
is_at-requires c =
    let a = c.args in
    let l = c.loop in
    omega
    (arith, l.invariant.2.ends, heads_grow (layout_of a.layout) a.s.now a.first l.counter a.last (omega arith) (omega arith) (omega arith), c.requires.from_bound.0)

pub insert_at-put-requires : goal.insert_at-put-requires
insert_at-put-requires c =
    let a = c.args in
    let l = c.loop in
    let L = layout_of a.layout in
    let file = a.s.now in
    let old = a.addresses.now in
    let here : l.counter < a.last = omega (arith, c.loop-test.true) in
    let known : l.counter < hop_count file = omega arith in
    let most : length (heads_of L file a.first a.last) ≤ 16 = c.requires.first_le_last.2 in
    let room : a.from + 16 ≤ 242 = c.requires.from_bound.0 in
    let long : length old ≡ 242 = c.requires.from_bound.1 in
    let ends = l.invariant.2.ends in
    let head = head_read L file l.counter l.start c.u32_at.result l.invariant.0 c.u32_at.ensures in
    let more = length_next L file a.first l.counter a.from old l.addresses l.end l.invariant.2 (omega arith) (omega arith) known c.u32_at.result head in
    let grown = heads_grow L file a.first l.counter a.last (omega arith) (omega arith) c.requires.first_le_last.1 in
    let growing = heads_grow L file a.first (l.counter + 1) a.last (omega arith) (omega arith) c.requires.first_le_last.1 in (
      omega (arith, ends),
      omega (arith, ends, grown, most, room),
      omega (arith, more, growing, most, room),
      ap length l.invariant.2.cells ∙ length-placed a.from (heads_of L file a.first l.counter) old (omega (arith, grown, most, room, long)) ∙ long,
    )

-- what a turn leaves: the heads of one record more
turn
    : (c : Joined-not-is_at)
    → let a = c.args in
    let l = c.loop in
    Holds (layout_of a.layout) a.s.now a.first (l.counter + 1) a.from a.addresses.now c.if-not-is_at.addresses c.if-not-is_at.end
    × (a.from ≤ c.if-not-is_at.next)
    × (c.if-not-is_at.next < c.if-not-is_at.end)
turn c =
    let a = c.args in
    let l = c.loop in
    let L = layout_of a.layout in
    let file = a.s.now in
    let old = a.addresses.now in
    let here : l.counter < a.last = omega (arith, c.loop-test.true) in
    let known : l.counter < hop_count file = omega (arith, c.requires.first_le_last.1) in
    let room : a.from ≤ length old = omega (arith, c.requires.from_bound) in
    let x = c.u32_at.result in
    let head = head_read L file l.counter l.start x l.invariant.0 c.u32_at.ensures in
    elim c.if-not-is_at.branch [
      | then-not-is_at w ↦
          let put = w.insert_at-put.ensures in
          rw (w.addresses-is, w.end-is, w.next-is)
          (holds-put L file a.first l.counter a.from old l.addresses l.end l.invariant.2 room (omega arith) known x head _ _ put.end_value.0 put.addresses_after, put.end_value.1, put.end_value.2)
      | else-not-is_at w ↦
          let found = holds-known L file a.first l.counter a.from old l.addresses l.end l.invariant.2 room (omega arith) known x head l.next l.invariant.1
          (sym c.is_at.ensures ∙ w.if-not-is_at.false) in
          rw (w.addresses-is, w.end-is, w.next-is) (found.0, l.invariant.1, found.1)
    ]

pub cell_after-next-requires : goal.cell_after-next-requires
cell_after-next-requires c = let t = turn (goal.at.cell_after-next-requires c).Joined-not-is_at in (t.1, t.2)

pub overflow_add-start-in-loop : goal.overflow_add-start-in-loop
overflow_add-start-in-loop c =
    let w = inside (goal.at.overflow_add-start-in-loop c).In-loop in
    omega (arith, w.inside, c.loop.invariant.0, c.well_formed.0)

pub loop-preserved : goal.loop-preserved
loop-preserved c =
    let a = c.args in
    let l = c.loop in
    let t = turn (goal.at.loop-preserved c).Joined-not-is_at in
    (rw l.invariant.0 (next_start (layout_of a.layout) a.s.now l.counter), c.cell_after-next.ensures.0, t.0)

pub returns : goal.returns
returns c =
    let a = c.args in
    let l = c.loop in
    let last : l.counter ≡ a.last = omega arith in
    let all = subst (λ (n : ℕ). Holds (layout_of a.layout) a.s.now a.first n a.from a.addresses.now l.addresses l.end) last l.invariant.2 in
    record {
      value = all.ends;
      addresses_after = all.cells;
    }
