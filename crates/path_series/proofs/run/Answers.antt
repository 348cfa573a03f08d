-- `path_series::run` meets its contract: malformed arguments leave all as it is, else the calls are made, and what they leave are the replies (`series-replies`).
use Prim.Native.Nat.{ℕ}
use mathlib.Core.Path.{sym, ◌∙◌}
use Rattle.path_series.proofs.Outcomes.{nothing_run, all_run}
use Rattle.path_series.proofs.run.Goals as goal

pub returns-then-malformed : goal.returns-then-malformed
returns-then-malformed c =
    let a = c.args in
    nothing_run _ a.kinds.now a.sizes.now a.buffers.now a.numbers.now (sym c.malformed.ensures ∙ c.if-malformed.true)

pub make_calls-requires : goal.make_calls-requires
make_calls-requires c = sym c.malformed.ensures ∙ c.if-malformed.false

pub returns : goal.returns
returns c =
    let a = c.args in
    all_run _ a.kinds.now a.sizes.now a.buffers.now a.numbers.now (sym c.malformed.ensures ∙ c.if-malformed.false) (λ (k : ℕ). (c.type_inv.profile k).fits) _ _ c.make_calls.ensures
