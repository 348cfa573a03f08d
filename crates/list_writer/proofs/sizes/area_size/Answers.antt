-- `list_writer::sizes::area_size` meets its contract: nothing for kind 0, else four bytes and the area with its padding.
use native.Mathlib.Omega.{arith}
use Rattle.laws.proofs.AreaLengths.{fits-short}
use Rattle.list_writer.proofs.WrittenParts.{area-long}
use Rattle.list_writer.proofs.sizes.area_size.Goals as goal

pub returns-else-d-eq0 : goal.returns-else-d-eq0
returns-else-d-eq0 c =
    let d = c.args.d in
    let short = fits-short d.kind d.length c.requires.fits in
    let long = area-long d c.requires c.if-d-eq0.false in
    (omega arith, omega arith)
