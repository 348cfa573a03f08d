-- `tree_reaches::best_from` meets its contract: before the first record nothing is reached, and each record is one step more of the running minimum (`Hops`).
use mathlib.Core.Path.{sym, ap, ◌∙◌}
use Prim.Native.Nat.{ℕ, ◌<◌}
use native.Mathlib.Omega.{arith}
use native.Mathlib.Numerals.{add-one}
use lib.Seq.{slice, slice_empty}
use Rattle.model.specs.declared.Hop.{Hop}
use Rattle.model.specs.Profile.{hop_count, hops}
use Rattle.laws.specs.Reach.{Reach, unreached, better, best_from}
use Rattle.profile_records.specs.Layout.{layout_of}
use Rattle.tree_reaches.specs.Reaches.{way_on}
use Rattle.tree_reaches.proofs.Hops.{slice_more, best_more}
use Rattle.tree_reaches.proofs.best_from.Goals as goal

pub loop-i-init : goal.loop-i-init
unfolding best_from
loop-i-init c =
    let a = c.args in
    sym
    (ap (best_from unreached (way_on a.asked (slice a.from a.to a.addresses.now) (slice a.from a.to a.reaches.now)))
    (slice_empty a.first (hops (layout_of a.layout) a.s.now)))

pub loop-i-preserved : goal.loop-i-preserved
loop-i-preserved c =
    let a = c.args in
    let l = c.loop-i in
    let L = layout_of a.layout in
    let s = a.s.now in
    let f : Hop → Reach = way_on a.asked (slice a.from a.to a.addresses.now) (slice a.from a.to a.reaches.now) in
    let h : l.i < hop_count s = omega arith in
    c.taken-best.ensures
    ∙ ap (λ (x : Reach). better x (f c.accepted_hop-h.result)) l.invariant
    ∙ ap (λ (x : Hop). better (best_from unreached f (slice a.first l.i (hops L s))) (f x)) c.accepted_hop-h.ensures.is
    ∙ sym
    (ap (λ (n : ℕ). best_from unreached f (slice a.first n (hops L s))) (add-one l.i)
    ∙ ap (best_from unreached f) (slice_more L s a.first l.i (omega arith) h)
    ∙ best_more unreached f (slice a.first l.i (hops L s)) _)
