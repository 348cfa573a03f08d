-- `path_search::above` meets its contract, by how the given list starts.
use mathlib.Core.Path.{sym, ap, ◌∙◌}
use mathlib.Core.Option.{Option}
use native.Mathlib.Omega.{arith}
use lib.ListN.{drop}
use Rattle.std.specs.declared.cmp.Ordering.{Ordering}
use Rattle.model.specs.Path.{Route, legs}
use Rattle.laws.specs.Descent.{first_from, next_after}
use Rattle.path_descent.specs.Routes.{is_found, routed}
use Rattle.path_descent.proofs.Found.{reached, any_first, nothing_written}
use Rattle.path_search.proofs.Starts.{by, next_by_lem, same_some}
use Rattle.path_search.proofs.above.Goals as goal

pub next_after-requires-clause-inside : goal.next_after-requires-clause-inside
next_after-requires-clause-inside c =
    let a = c.args in
    (omega arith, c.requires.count_in_bounds.0, c.requires.count_in_bounds.1 (same_some a.given.now a.tree.now.query.source.0 (sym c.start_of.ensures ∙ c.in-Equal.is)))

pub returns-in-Less : goal.returns-in-Less
returns-in-Less c =
    let a = c.args in
    let source = a.tree.now.query.source.0 in
    λ S worked stands.
    let w = c.first_by.ensures S worked stands in
    let o = any_first S (legs S.sequence) 0 source (reached S 0 source a.here stands)
    ∙ sym (next_by_lem S (legs S.sequence) 0 source a.given.now ∙ ap (λ (x : Ordering). by x (first_from S (legs S.sequence) 0 source) (next_after S (legs S.sequence) 0 source (drop 1 a.given.now))) (sym c.start_of.ensures ∙ c.in-Less.is)) in
    record { says = w.says ∙ ap is_found o; holds = w.holds ∙ ap (λ (x : Option Route). routed 0 x a.path.now) o }

pub returns-in-Equal : goal.returns-in-Equal
returns-in-Equal c =
    let a = c.args in
    let source = a.tree.now.query.source.0 in
    λ S worked stands.
    let w = c.next_after.ensures S worked stands in
    let o = sym (next_by_lem S (legs S.sequence) 0 source a.given.now ∙ ap (λ (x : Ordering). by x (first_from S (legs S.sequence) 0 source) (next_after S (legs S.sequence) 0 source (drop 1 a.given.now))) (sym c.start_of.ensures ∙ c.in-Equal.is)) in
    record { says = w.says ∙ ap is_found o; holds = w.holds ∙ ap (λ (x : Option Route). routed 0 x a.path.now) o }

pub returns-in-Greater : goal.returns-in-Greater
returns-in-Greater c =
    let a = c.args in
    let source = a.tree.now.query.source.0 in
    λ S worked stands.
    nothing_written 0 _ a.path.now
    (next_by_lem S (legs S.sequence) 0 source a.given.now ∙ ap (λ (x : Ordering). by x (first_from S (legs S.sequence) 0 source) (next_after S (legs S.sequence) 0 source (drop 1 a.given.now))) (sym c.start_of.ensures ∙ c.in-Greater.is))
