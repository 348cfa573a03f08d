-- `path_calls::first` meets its contract: what the call gives by value, and its path over the start of the lent list; on a refusal nothing is written.
use mathlib.Core.Path.{sym, ap, ◌∙◌}
use Prim.Native.Nat.{ℕ}
use Rattle.model.specs.Lists.{over}
use Rattle.model.specs.Calls.{Outcome}
use Rattle.path_calls.proofs.Outcomes.{nothing_over}
use Rattle.path_calls.proofs.first.Goals as goal

pub returns-in_err-reply-clause-path_after : goal.returns-in_err-reply-clause-path_after
returns-in_err-reply-clause-path_after c =
    nothing_over c.args.path.now ∙ sym (ap (λ (o : Outcome ℕ). over o.written c.args.path.now) c.in_err-reply.ensures)
