-- `profile_check::crowd::crowded_verdict` meets its contract. The loop's invariant: the records from `i` on decide, and what is noted are the entry nodes of the current pair
-- (`Passing`).
use Rattle.profile_check.proofs.CrowdStep.{unlike, alike, Turn, carried-few, same-passes, same_goes_on, seventeenth, few_pass, few_go_on}
use Rattle.profile_check.proofs.Crowding.{Passing, passing_start}
use Rattle.profile_check.proofs.Passed.{all_ordered, all_numeric}
use Rattle.profile_check.specs.Noting.{with_node}
use Rattle.profile_records.proofs.Fields.{hop-within}
use Rattle.profile_records.specs.Layout.{layout_of}
use Rattle.profile_check.proofs.Padding.{padded_none, padded-carried}
use Rattle.profile_record_checks.proofs.Turned.{start, passed, refused, ended}
use Rattle.model.specs.Profile.{hop_count}
use lib.Dec.{eqb}
use borrow.Author.Tests.{leb-true, leb-false}
use mathlib.Core.Bool.{◌&&◌}
use mathlib.Core.List.{List}
use mathlib.Core.Path.{refl, sym, ap, subst, ◌∙◌}
use Prim.Native.Nat.{ℕ, ◌+◌}
use native.Mathlib.Omega.{arith}
use Rattle.profile_check.proofs.crowd.crowded_verdict.Goals as goal
use Rattle.profile_check.proofs.crowd.crowded_verdict.Goals.{After-turn_to, then-ne+else-not-note, else-ne}

-- what the code holds once it has turned to the pair of the record
turn : (c : After-turn_to)
    → let a = c.args in
    let old = c.loop-i.noted in
    let new = c.turn_to.new.self in
    Turn (layout_of a.layout) a.s.now old.from.0 old.to.0 c.loop-i.i new.nodes old.count c.hop_at-h.result new.count
turn c =
    let a = c.args in
    let l = c.loop-i in
    record {
      bytes = λ (k : ℕ). (c.type_inv.s k).fits;
      within = c.requires.hops_within;
      ordered = all_ordered (layout_of a.layout) a.s.now (hop_count a.s.now) c.requires.s_value;
      here = omega (arith, c.loop-i-test.true, c.hop_count-hops.ensures);
      passing = subst (λ (ns : List ℕ). Passing (layout_of a.layout) a.s.now l.noted.from.0 l.noted.to.0 l.i ns l.noted.count) (sym c.turn_to.ensures.same_nodes) l.invariant.3;
      is = c.hop_at-h.ensures;
      keeps = c.turn_to.ensures.count;
    }

pub loop-i-init : goal.loop-i-init
loop-i-init c =
    let a = c.args in (
      omega arith,
      refl,
      padded_none _ 0 refl,
      passing_start (layout_of a.layout) a.s.now 0 0 _,
      start _ c.hop_count-hops.result,
    )

pub hop_at-h-requires : goal.hop_at-h-requires
hop_at-h-requires c =
    let a = c.args in record {
      hop_within = hop-within (layout_of a.layout) a.s.now c.loop-i.i (hop_count a.s.now)
          c.requires.hops_within (omega arith);
      i_bound = all_numeric (layout_of a.layout) a.s.now (hop_count a.s.now)
          c.requires.s_value c.loop-i.i (omega arith);
    }

pub note-requires : goal.note-requires
note-requires c =
    let l = c.loop-i in
    let x = c.hop_at-h.result in
    let same = eqb x.from.0 l.noted.from.0 && eqb x.to.0 l.noted.to.0 in (
      rw c.turn_to.ensures.count (carried-few same l.noted.count 16 l.invariant.0),
      rw c.turn_to.ensures.same_nodes l.invariant.1,
      rw c.turn_to.ensures.same_nodes (padded-carried same l.noted.nodes l.noted.count _ c.turn_to.ensures.count l.invariant.2),
    )

pub returns-then-not-note : goal.returns-then-not-note
returns-then-not-note c =
    let l = c.loop-i in
    let x = c.hop_at-h.result in
    let new = c.turn_to.new.self in
    c.refuse.ensures
    ∙ refused l.invariant.4 c.hop_count-hops.ensures c.loop-i-test.true
    (seventeenth (turn (goal.at.returns-then-not-note c).After-turn_to) (unlike x.from.0 x.to.0 c.if-ne.ensures) (with_node new.nodes new.count x.head.0) refl
    (leb-false _ _ (sym c.if-not-note.ensures.value))
    (c.domain_count-domains.result + l.i) (ap (λ (n : ℕ). n + l.i) c.domain_count-domains.ensures))

pub loop-i-preserved : goal.loop-i-preserved
loop-i-preserved c =
    let l = c.loop-i in
    let x = c.hop_at-h.result in
    let new = c.turn_to.new.self in
    let same = eqb x.from.0 l.noted.from.0 && eqb x.to.0 l.noted.to.0 in
    let t = turn (goal.at.loop-i-preserved c).After-turn_to in
    elim c.if-ne.branch [
      | then-ne+else-not-note w ↦
          let after = with_node new.nodes new.count x.head.0 in
          let few = leb-true after 16 (sym w.if-not-note.ensures.value) in
          let differ = unlike x.from.0 x.to.0 w.if-ne.ensures in
          let added = w.note.ensures.added w.if-not-note.false in
          rw w.noted-is (
            rw added.1 few,
            added.0.long,
            rw added.1 (added.0.padded few),
            rw (added.1, w.note.ensures.same_pair.0, w.note.ensures.same_pair.1, c.turn_to.ensures.pair.0, c.turn_to.ensures.pair.1) (few_go_on t differ after refl few _ added.0),
            passed l.invariant.4 c.loop-i-test.true (few_pass t differ after refl few),
          )
      | else-ne w ↦
          rw w.noted-is (
            rw c.turn_to.ensures.count (carried-few same l.noted.count 16 l.invariant.0),
            rw c.turn_to.ensures.same_nodes l.invariant.1,
            rw c.turn_to.ensures.same_nodes (padded-carried same l.noted.nodes l.noted.count _ c.turn_to.ensures.count l.invariant.2),
            rw (c.turn_to.ensures.pair.0, c.turn_to.ensures.pair.1) (same_goes_on t (alike x.from.0 x.to.0 w.if-ne.ensures)),
            passed l.invariant.4 c.loop-i-test.true (same-passes t (alike x.from.0 x.to.0 w.if-ne.ensures)),
          )
    ]

pub returns : goal.returns
returns c = ended c.loop-i.invariant.4 c.hop_count-hops.ensures c.loop-i-test.false
