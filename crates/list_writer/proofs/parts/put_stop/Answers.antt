-- `list_writer::parts::put_stop` meets its contract: the four parts one after the other.
use native.Mathlib.Omega.{arith}
use Rattle.laws.specs.Stops.{pin_as}
use Rattle.list_writer.proofs.WrittenParts.{whole_put, stop-long}
use Rattle.buffers.proofs.Places.{put_append}
use Rattle.list_writer.proofs.parts.put_stop.Goals as goal

pub put_pin-stretch-requires : goal.put_pin-stretch-requires
put_pin-stretch-requires c =
    let a = c.args in
    let long = stop-long (pin_as a.pin) a.exrs.now a.again a.d in
    omega arith

pub put_bytes-system-requires : goal.put_bytes-system-requires
put_bytes-system-requires c =
    let a = c.args in
    let long = stop-long (pin_as a.pin) a.exrs.now a.again a.d in
    let stretch = c.put_pin-stretch.ensures.next in
    (omega arith, omega arith)

pub put_system-area-requires : goal.put_system-area-requires
put_system-area-requires c =
    let a = c.args in
    let long = stop-long (pin_as a.pin) a.exrs.now a.again a.d in
    let stretch = c.put_pin-stretch.ensures.next in
    let system = (whole_put {run = a.exrs.now} c.put_bytes-system.ensures).next in
    omega arith

pub put_area-requires : goal.put_area-requires
put_area-requires c =
    let a = c.args in
    let long = stop-long (pin_as a.pin) a.exrs.now a.again a.d in
    let stretch = c.put_pin-stretch.ensures.next in
    let system = (whole_put {run = a.exrs.now} c.put_bytes-system.ensures).next in
    let area = c.put_system-area.ensures.next in
    (omega arith, c.requires.1)

pub returns : goal.returns
returns c =
    let a = c.args in
    let long = stop-long (pin_as a.pin) a.exrs.now a.again a.d in
    let exrs = whole_put {run = a.exrs.now} c.put_bytes-system.ensures in
    let stretch = c.put_pin-stretch.ensures.next in
    let system = exrs.next in
    put_append (omega arith) c.put_pin-stretch.ensures (put_append (omega arith) exrs (put_append (omega arith) c.put_system-area.ensures c.put_area.ensures))
