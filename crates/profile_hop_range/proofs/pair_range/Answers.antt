-- `profile_hop_range::pair_range` meets its contract: of all hop records those of the pair are the ones whose keys have the pair in front.
use Prim.Native.Nat.{ℕ}
use native.Mathlib.Omega.{arith}
use mathlib.Core.Path.{sym, subst}
use mathlib.Core.Bool.{true}
use Rattle.model.specs.declared.Hop.{Hop}
use Rattle.model.specs.Profile.{hop_at, between}
use Rattle.profile_records.specs.Layout.{layout_of}
use Rattle.profile_check.proofs.Access.{file-length}
use Rattle.profile_hop_range.specs.Ranges.{RangeOf}
use Rattle.profile_hop_range.proofs.Keys.{parts, pair-told}
use Rattle.profile_hop_range.proofs.Narrowing.{range_all, narrow}
use Rattle.profile_hop_range.proofs.pair_range.Goals as goal

pub hop_count-hops-requires : goal.hop_count-hops-requires
hop_count-hops-requires c =
    let a = c.args in
    (file-length (layout_of a.layout) a.s.now c.requires.passed).0

pub returns : goal.returns
returns c =
    let known = c in
    let a = c.args in
    let L = layout_of a.layout in
    let s = a.s.now in
    let d = a.from.0 in
    let e = a.to.0 in
    let all = subst (λ (n : ℕ). RangeOf (λ (h : Hop). true) L s 0 n) (sym c.hop_count-hops.ensures) (range_all L s) in
    narrow L s (λ (h : Hop). true) (between d e) _ _ _ _ _ _ all c.key_range.ensures
    (λ i t.
    pair-told d e _ _ (hop_at L s i) (parts L s (λ (k : ℕ). (c.type_inv.s k).fits) i) (omega arith)
    (omega (arith, c.find_key-key.ensures)) (omega arith))
