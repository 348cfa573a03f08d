-- `list_reader::read::copy_sequence` meets its contract. The loop's invariant: each buffer has its part of the stops passed, wherever their EXRS stand, and the rest as it was.
use Prim.Native.Nat.{◌≤◌}
use mathlib.Core.Path.{◌≡◌, refl}
use native.Mathlib.Omega.{arith}
use lib.ListN.{length}
use Rattle.laws.specs.Stops.{stop_at}
use Rattle.buffers.proofs.Copies.{copied_none}
use Rattle.list_reader.proofs.SequenceCopies.{domain, mark, node, part, part-more, part-whole, marked, noded}
use Rattle.list_reader.proofs.read.copy_sequence.Goals as goal
use Rattle.list_reader.proofs.read.copy_sequence.Goals.{Start}

-- each buffer has room for the sequence
room : (c : Start) → (c.args.st.count ≤ length c.args.domains.now) × (c.args.st.count ≤ length c.args.pinned.now) × (c.args.st.count ≤ length c.args.pins.now)
room c = (omega (arith, c.requires.1), omega (arith, c.requires.1), omega (arith, c.requires.1))

pub loop-i-init : goal.loop-i-init
loop-i-init c =
    let a = c.args in
    λ list. (copied_none (part list a.st domain) a.domains.now, copied_none (part list a.st mark) a.pinned.now, copied_none (part list a.st node) a.pins.now)

pub loop-i-preserved : goal.loop-i-preserved
loop-i-preserved c =
    let a = c.args in
    let l = c.loop-i in
    let e = room (goal.at.loop-i-preserved c).Start in
    let test = c.loop-i-test.true in
    λ list. (
      part-more list a.st domain a.domains.now l.domains l.i (l.invariant list).0 e.0 _ test refl refl,
      part-more list a.st mark a.pinned.now l.pinned l.i (l.invariant list).1 e.1 _ test refl (marked (stop_at a.st.stops l.i).pin _ c.is_some.ensures),
      part-more list a.st node a.pins.now l.pins l.i (l.invariant list).2 e.2 _ test refl (noded (stop_at a.st.stops l.i).pin _ c.unwrap_or.ensures),
    )

pub returns : goal.returns
returns c =
    let a = c.args in
    let l = c.loop-i in
    let e = room (goal.at.returns c).Start in
    let end : l.i ≡ a.st.count = omega (arith, c.loop-i-test.false) in
    λ list.
    record {
      in_domains = part-whole list a.st domain a.domains.now l.domains l.i (l.invariant list).0 e.0 end;
      in_marks = part-whole list a.st mark a.pinned.now l.pinned l.i (l.invariant list).1 e.1 end;
      in_nodes = part-whole list a.st node a.pins.now l.pins l.i (l.invariant list).2 e.2 end;
    }
