-- `bound::keeps_bound` meets its contract: at 64 bits the machine's comparison is that of exact values.
use Rattle.std.proofs.Common.{Bool, false, sym, ap, ◌∙◌, rules}
use borrow.Author.Tests.{not-true, not-false}
use Rattle.model.specs.Path.{bound_kept, keeps_bound}
use Rattle.laws.proofs.BoundExact.{widens, bound_exact}
use Rattle.bound.proofs.keeps_bound.Goals as goal

pub returns-then-not-limits : goal.returns-then-not-limits
unfolding keeps_bound
returns-then-not-limits c =
    let a = c.args in
    sym (ap (λ (b : Bool). bound_kept b a.limits a.total) {x = a.limits.bounded} {y = false} (not-true a.limits.bounded c.if-not-limits.true))

pub float_to_float-result : goal.float_to_float-result
float_to_float-result c =
    let start = c in
    widens c.args.limits.bound (search rules) (c.requires (not-false _ c.if-not-limits.false))

pub returns : goal.returns
unfolding keeps_bound
returns c =
    let start = c in
    let a = c.args in
    let t = not-false _ c.if-not-limits.false in
    bound_exact a.total a.limits.bound (search rules) (search rules) (c.requires t) ∙ sym (ap (λ (b : Bool). bound_kept b a.limits a.total) t)
