-- `tree_step::fill_level` meets its contract: a turn writes one entry's number more, and what the next place holds stays (`Entries`).
use mathlib.Core.Path.{◌≡◌, sym, ap, subst, ◌∙◌}
use mathlib.Core.List.{List}
use Prim.Native.Nat.{ℕ, suc, ◌+◌, ◌-◌}
use native.Mathlib.Omega.{arith}
use lib.ListN.{length, get_or, set, length-map, get_or-map}
use lib.Seq.{slice, paste, paste-suc, length-slice}
use Rattle.laws.specs.Lists.{lists_of}
use Rattle.laws.proofs.Ranges.{get_or_slice}
use Rattle.profile_records.specs.Layout.{layout_of}
use Rattle.tree_reaches.specs.Reaches.{code_of, NextPlace}
use Rattle.tree_step.specs.Step.{entry_code, level_codes}
use Rattle.tree_reaches.proofs.Codes.{code_reach}
use Rattle.tree_step.proofs.Entries.{after-paste, next_kept}
use Rattle.tree_step.proofs.fill_level.Goals as goal
use Rattle.tree_step.proofs.fill_level.Goals.{Start}

-- as many numbers as the domain has entries
long : (c : Start) → length (level_codes (layout_of c.args.step.now.layout) c.args.step.now.profile.now (lists_of c.args.step.now.include.now c.args.step.now.exclude.now) c.args.step.now.leg c.args.step.now.asked c.args.step.now.addresses.now c.args.reaches.now) ≡ c.args.step.now.leg.next - c.args.step.now.leg.start
long c =
    let a = c.args.step.now in
    let place = c.requires.start_le_next.1 in
    let o = place.order in
    let k = place.part.inside in
    length-map (slice a.leg.start a.leg.next a.addresses.now) _ ∙ length-slice a.leg.start a.leg.next a.addresses.now (omega arith)

pub entry_reach-requires-clause-next_place : goal.entry_reach-requires-clause-next_place
entry_reach-requires-clause-next_place c =
    let start = c in
    let a = c.args.step.now in
    let l = c.loop-j in
    let n = long (goal.at.entry_reach-requires-clause-next_place c).Start in
    subst (λ (ns : List ℕ). NextPlace a.addresses.now ns a.leg.next a.leg.end) (sym l.invariant)
    (next_kept a.addresses.now c.args.reaches.now _ a.leg.start (l.j - a.leg.start) a.leg.next a.leg.end c.requires.start_le_next.1 (omega arith) (omega arith))

pub loop-j-preserved : goal.loop-j-preserved
loop-j-preserved c =
    let start = c in
    let a = c.args.step.now in
    let lists = lists_of a.include.now a.exclude.now in
    let l = c.loop-j in
    let L = layout_of a.layout in
    let place = c.requires.start_le_next.1 in
    let o = place.order in
    let k = place.in_codes in
    let m = place.part.inside in
    let n = long (goal.at.loop-j-preserved c).Start in
    let done = l.j - a.leg.start in
    let at : a.leg.start + done ≡ l.j = omega arith in
    let next : suc done ≡ l.j + 1 - a.leg.start = omega arith in
    let nodes = slice a.leg.start a.leg.next a.addresses.now in
    let codes = level_codes L a.profile.now lists a.leg a.asked a.addresses.now c.args.reaches.now in
    let code : ℕ → ℕ = entry_code L a.profile.now lists a.leg a.asked (slice a.leg.next a.leg.end a.addresses.now) (slice a.leg.next a.leg.end c.args.reaches.now) in
    let node : get_or nodes done 0 ≡ get_or a.addresses.now l.j 0 =
    get_or_slice a.addresses.now a.leg.start a.leg.next done 0 (omega arith) ∙ ap (λ (i : ℕ). get_or a.addresses.now i 0) at in
    let same : slice a.leg.next a.leg.end l.reaches ≡ slice a.leg.next a.leg.end c.args.reaches.now =
    ap (slice a.leg.next a.leg.end) l.invariant ∙ after-paste c.args.reaches.now codes a.leg.start done a.leg.next a.leg.end (omega arith) o (omega arith) (omega arith) in
    let value : c.entry_reach.result ≡ get_or codes done (code 0) =
    sym (code_reach c.entry_reach.result)
    ∙ ap code_of c.entry_reach.ensures
    ∙ ap (λ (ns : List ℕ). entry_code L a.profile.now lists a.leg a.asked (slice a.leg.next a.leg.end a.addresses.now) ns (get_or a.addresses.now l.j 0)) same
    ∙ ap code (sym node)
    ∙ sym (get_or-map code nodes done 0) in
    (λ i. set (l.invariant i) (sym at i) (value i))
    ∙ paste-suc c.args.reaches.now a.leg.start codes done (code 0) (omega arith) (omega arith)
    ∙ ap (paste c.args.reaches.now a.leg.start codes) next
