-- `path_step::scan` meets its contract. The loop's invariant: the first of all that is taken is the first of those from i on.
use mathlib.Core.Path.{◌≡◌, refl, sym, ap, subst, ◌∙◌}
use mathlib.Core.Bool.{Bool, true, false}
use mathlib.Core.List.{List, head?}
use mathlib.Core.Option.{some}
use Prim.Native.Nat.{ℕ}
use native.Mathlib.Numerals.{add-one}
use native.Mathlib.Omega.{arith}
use lib.Seq.{slice}
use Rattle.std.specs.Prelude.{Option, is_some}
use Rattle.model.specs.declared.Hop.{Hop}
use Rattle.model.specs.Lists.{keep}
use Rattle.model.specs.Profile.{hop_at, hops}
use Rattle.profile_records.specs.Layout.{layout_of}
use Rattle.path_step.specs.declared.Judge.{Judge}
use Rattle.path_step.specs.declared.Onward.{Onward}
use Rattle.path_step.specs.Onward.{is_taken, onward, onward_if, FirstTaken}
use Rattle.path_step.proofs.Turns.{first_here, first_later, first_of_none}
use Rattle.path_step.proofs.scan.Goals as goal
use Rattle.path_step.proofs.scan.Goals.{After-tried-on}

-- what is gone on by is told only of a record that is taken
told : (b : Bool) (on : Onward) (r : Option Onward) → r ≡ onward_if b on → is_some r ≡ b
told true on r e = ap is_some e
told false on r e = ap is_some e

-- the record looked at, where it is taken, is the first
found
    : (by : Judge) (hs : List Hop) (h : Hop) (r : Option Onward)
    → r ≡ onward_if (is_taken by h) (onward by h) → is_taken by h ≡ true → head? (keep (is_taken by) hs) ≡ some h → FirstTaken by hs r
found by hs h r e t f =
    subst (FirstTaken by hs) (sym (e ∙ ap (λ (b : Bool). onward_if b (onward by h)) t)) (record { hop = h; first = f; is = refl })

-- whether it is taken
looked : (c : After-tried-on) → c.tried-on.result ≡ onward_if (is_taken c.args.by (hop_at (layout_of c.args.layout) c.args.s.now c.loop-i.i)) (onward c.args.by (hop_at (layout_of c.args.layout) c.args.s.now c.loop-i.i))
looked c = c.tried-on.ensures ∙ ap (λ (h : Hop). onward_if (is_taken c.args.by h) (onward c.args.by h)) c.accepted_hop.ensures.is

pub returns-then-is_some : goal.returns-then-is_some
returns-then-is_some c =
    let a = c.args in
    let h = hop_at (layout_of a.layout) a.s.now c.loop-i.i in
    let is = looked (goal.at.returns-then-is_some c).After-tried-on in
    let t = sym (told (is_taken a.by h) (onward a.by h) _ is) ∙ sym c.is_some.ensures ∙ c.if-is_some.true in
    found a.by _ h _ is t (c.loop-i.invariant ∙ first_here (is_taken a.by) (layout_of a.layout) a.s.now c.loop-i.i a.range.last (omega arith) (omega arith) t)

pub loop-i-preserved : goal.loop-i-preserved
loop-i-preserved c =
    let a = c.args in
    let h = hop_at (layout_of a.layout) a.s.now c.loop-i.i in
    let is = looked (goal.at.loop-i-preserved c).After-tried-on in
    let f = sym (told (is_taken a.by h) (onward a.by h) _ is) ∙ sym c.is_some.ensures ∙ c.if-is_some.false in
    rw add-one
    (c.loop-i.invariant ∙ first_later (is_taken a.by) (layout_of a.layout) a.s.now c.loop-i.i a.range.last (omega arith) (omega arith) f)

pub returns : goal.returns
returns c =
    let a = c.args in
    let e : c.loop-i.i ≡ a.range.last = omega arith in
    c.loop-i.invariant
    ∙ ap (λ (n : ℕ). head? (keep (is_taken a.by) (slice n a.range.last (hops (layout_of a.layout) a.s.now)))) e
    ∙ first_of_none (is_taken a.by) (layout_of a.layout) a.s.now a.range.last
