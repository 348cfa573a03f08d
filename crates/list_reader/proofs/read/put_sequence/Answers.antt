-- `list_reader::read::put_sequence` meets its contract: too little capacity, or the sequence in the buffers, which only then are written.
use mathlib.Core.Path.{◌≡◌, sym, ap, ap₂, ◌∙◌}
use Prim.Native.Nat.{ℕ}
use native.Mathlib.Omega.{arith}
use borrow.Author.Rules.{rules}
use lib.ListN.{length}
use lib.Dec.{ltb}
use Rattle.std.specs.Prelude.{Err}
use Rattle.model.specs.Verdict.{refuse_if}
use Rattle.model.specs.Calls.{all_exrs, room_verdict}
use Rattle.buffers.specs.Capacity.{least4}
use Rattle.list_include.specs.Reading.{state_stops}
use Rattle.list_include.proofs.States.{length-stops}
use Rattle.list_reader.proofs.ReadOutcomes.{few-places, few_bytes, outcome-read, refused-is, read_is}
use Rattle.list_reader.proofs.read.put_sequence.Goals as goal
use Rattle.list_reader.proofs.read.put_sequence.Goals.{After-refuse_if, After-refuse_if-2}

-- the capacity for the domains is that of the shortest of their buffers
places : (c : After-refuse_if) → c.refuse_if.result ≡ room_verdict (length (state_stops c.args.list.now c.args.st)) (least4 c.args.domains.now c.args.pinned.now c.args.pins.now c.args.counts.now)
places c =
    let a = c.args in
    let room : c.lesser-room.result ≡ least4 a.domains.now a.pinned.now a.pins.now a.counts.now = omega (arith, c.lesser-room.ensures, c.lesser-2.ensures, c.lesser.ensures) in
    c.refuse_if.ensures ∙ ap₂ (λ (n m : ℕ). refuse_if (ltb n m) 34 0) room (sym (length-stops a.list.now a.st))

bytes : (c : After-refuse_if-2) → c.refuse_if-2.result ≡ room_verdict (length (all_exrs (state_stops c.args.list.now c.args.st))) (length c.args.exrs.now)
bytes c = c.refuse_if-2.ensures ∙ ap (λ (n : ℕ). refuse_if (ltb (length c.args.exrs.now) n) 34 0) c.all_size-size.ensures.0

pub returns-in_err-refuse_if : goal.returns-in_err-refuse_if
returns-in_err-refuse_if c =
    let a = c.args in
    let x = c.in_err-refuse_if.field-0.0 in
    let same : c.from_residual.result ≡ Err x = search rules in
    refused-is a.domains.now a.pinned.now a.pins.now a.counts.now a.exrs.now _ x same
    (few-places (state_stops a.list.now a.st) _ _ x (sym (places (goal.at.returns-in_err-refuse_if c).After-refuse_if) ∙ c.in_err-refuse_if.was))

pub returns-in_err-refuse_if-2 : goal.returns-in_err-refuse_if-2
returns-in_err-refuse_if-2 c =
    let a = c.args in
    let x = c.in_err-refuse_if-2.field-0.0 in
    let same : c.from_residual-in_err-refuse_if-2.result ≡ Err x = search rules in
    refused-is a.domains.now a.pinned.now a.pins.now a.counts.now a.exrs.now _ x same
    (few_bytes (state_stops a.list.now a.st) _ _ (sym (places (goal.at.returns-in_err-refuse_if-2 c).After-refuse_if) ∙ c.in_ok-refuse_if.was) x
    (sym (bytes (goal.at.returns-in_err-refuse_if-2 c).After-refuse_if-2) ∙ c.in_err-refuse_if-2.was))

pub returns : goal.returns
returns c =
    let a = c.args in
    let stops = state_stops a.list.now a.st in
    read_is a.domains.now a.pinned.now a.pins.now a.counts.now a.exrs.now stops _ _ _
    (outcome-read stops _ _ (sym (places (goal.at.returns c).After-refuse_if) ∙ c.in_ok-refuse_if.was) (sym (bytes (goal.at.returns c).After-refuse_if-2) ∙ c.in_ok-refuse_if-2.was))
    (sym (length-stops a.list.now a.st))
    c.all_size-size.ensures.0
    (c.copy_sequence.ensures a.list.now)
    c.copy_exrs.ensures
