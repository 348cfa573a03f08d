-- `list_writer::parts::put_area` meets its contract: nothing for kind 0, else four bytes, the area's, and the padding, one run after the other.
use Prim.Native.Nat.{◌+◌, ◌≤◌}
use native.Mathlib.Omega.{arith}
use mathlib.Core.Path.{◌≡◌}
use lib.ListN.{length, take}
use lib.Seq.{length-take-le}
use Rattle.model.specs.Subobject.{rounded_up}
use Rattle.laws.proofs.AreaLengths.{fits-short}
use Rattle.list_writer.proofs.WrittenParts.{kind-small, told-small, area-long, area_put}
use borrow.Author.Rules.{rules}
use Rattle.list_writer.proofs.parts.put_area.Goals as goal
use Rattle.list_writer.proofs.parts.put_area.Goals.{Else-kind-eq0}

-- past the test there is room for the area with its padding, and the area is short
room : (c : Else-kind-eq0) → c.args.at + (4 + rounded_up c.args.d.length) ≤ length c.args.out.now
room c = omega (arith, c.requires.0, area-long c.args.d c.requires.1 c.if-kind-eq0.false)

short : (c : Else-kind-eq0) → c.args.d.length ≤ 13
short c = let d = c.args.d in fits-short d.kind d.length c.requires.1.fits

pub overflow_add-head : goal.overflow_add-head
overflow_add-head c =
    let d = c.args.d in
    let small = kind-small d.kind d.length c.requires.1.fits in
    omega arith

pub overflow_cast-head : goal.overflow_cast-head
overflow_cast-head c = let h = short (goal.at.overflow_cast-head c).Else-kind-eq0 in omega arith

pub overflow_mul-head : goal.overflow_mul-head
overflow_mul-head c =
    let d = c.args.d in
    let small = told-small d.kind d.length c.requires.1.fits in
    omega arith

pub put_bytes-start-requires : goal.put_bytes-start-requires
put_bytes-start-requires c = let h = room (goal.at.put_bytes-start-requires c).Else-kind-eq0 in search rules

pub put_bytes-end-requires : goal.put_bytes-end-requires
put_bytes-end-requires c =
    let h = room (goal.at.put_bytes-end-requires c).Else-kind-eq0 in
    let n = short (goal.at.put_bytes-end-requires c).Else-kind-eq0 in
    (omega arith, omega (arith, c.requires.1.whole))

pub put_bytes-requires : goal.put_bytes-requires
put_bytes-requires c =
    let d = c.args.d in
    let h = room (goal.at.put_bytes-requires c).Else-kind-eq0 in
    let n = short (goal.at.put_bytes-requires c).Else-kind-eq0 in
    let t : length (take d.length d.area) ≡ d.length = length-take-le d.length d.area (omega (arith, c.requires.1.whole)) in
    let start = c.put_bytes-start.ensures.next in
    let end = c.put_bytes-end.ensures.next in
    (omega arith, omega arith)

pub returns : goal.returns
returns c =
    let a = c.args in
    let h = room (goal.at.returns c).Else-kind-eq0 in
    area_put a.d a.at _ _ _ _ a.out.now _ _ _ c.requires.1 c.if-kind-eq0.false (omega arith) c.rounded_up-padded.ensures.0 c.put_bytes-start.ensures c.put_bytes-end.ensures c.put_bytes.ensures
