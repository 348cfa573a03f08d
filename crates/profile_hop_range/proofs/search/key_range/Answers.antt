-- `profile_hop_range::search::key_range` meets its contract: each end is found by a search. The second is made only where some record has the key or a greater one,
-- which is far below the largest number.
use Prim.Native.Nat.{ℕ}
use native.Mathlib.Omega.{arith}
use Rattle.laws.proofs.Accepted.{accepted}
use Rattle.profile_records.specs.Layout.{layout_of}
use Rattle.profile_hop_range.proofs.Keys.{key-small}
use Rattle.profile_hop_range.proofs.search.key_range.Goals as goal

pub overflow_add-key : goal.overflow_add-key
overflow_add-key c =
    let found = c in
    let known = c in
    let a = c.args in
    let L = layout_of a.layout in
    let s = a.s.now in
    let first = c.lower_bound-first.result in
    omega (
      arith,
      c.lower_bound-first.ensures.above first (omega arith) (omega arith),
      key-small L s (λ (k : ℕ). (c.type_inv.s k).fits) (accepted L s c.requires.right_profile.passed) first (omega arith),
    )
