-- `profile_records::area::has_area` meets its contract: slices are compared place by place.
use Rattle.profile_records.proofs.SameBytes.{pointwise-same}
use mathlib.Core.Path.{◌≡◌, ◌∙◌}
use Prim.Native.Nat.{◌+◌, ◌-◌}
use native.Mathlib.Omega.{arith}
use borrow.Author.Tests.{eq-eqb}
use Rattle.profile_records.proofs.area.has_area.Goals as goal

pub returns-then-d-kind : goal.returns-then-d-kind
returns-then-d-kind c =
    let a = c.args in
    let whole : a.start + a.count - a.start ≡ a.count = omega arith in
    c.eq.ensures ∙ (rw (c.wide.ensures.0, whole, eq-eqb a.d.kind a.kind c.if-d-kind.true) (pointwise-same _ _))
