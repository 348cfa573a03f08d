-- `profile_hop_range::tail_range` meets its contract: of the pair's hop records those that leave the node are the ones whose keys are the pair's and the node's.
use native.Mathlib.Omega.{arith}
use lib.Dec.{eqb}
use Rattle.model.specs.declared.Hop.{Hop}
use Rattle.model.specs.Profile.{hop_at, between}
use Rattle.profile_records.specs.Layout.{layout_of}
use Rattle.profile_hop_range.proofs.Keys.{tail-told}
use Rattle.profile_hop_range.proofs.Narrowing.{narrow}
use Rattle.profile_hop_range.proofs.tail_range.Goals as goal

pub returns : goal.returns
returns c =
    let at_start = c in
    let a = c.args in
    let L = layout_of a.layout in
    let s = a.s.now in
    let d = a.from.0 in
    let e = a.to.0 in
    let node = a.tail.0 in
    narrow L s (between d e) (λ (h : Hop). eqb h.tail.0 node) _ _ _ _ _ _ c.requires.pair_range c.key_range.ensures
    (λ i t. tail-told d e node _ _ (hop_at L s i) t (omega (arith, c.find_key-key.ensures)) (omega arith))
