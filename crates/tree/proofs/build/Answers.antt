-- `tree::build` meets its contract: the numbers that `solve` leaves, with their levels put beside them, give the entries back.
use mathlib.Core.Path.{subst}
use Rattle.model.specs.Calls.{build_tree}
use Rattle.request.specs.CheckedRequest.{request_of}
use Rattle.tree_fields.specs.TreeResult.{TreeResultIs}
use Rattle.tree.proofs.Entries.{entries-back}
use Rattle.tree.proofs.build.Goals as goal

pub returns : goal.returns
returns c =
    let a = c.args in
    let outcome = build_tree (request_of a.profile.now a.ingress.0 a.source.0 a.destination.0 a.include.now a.exclude.now a.limits) a.room in
    let r = c.in_ok-solved.solved in
    let l = c.solve.new in
    let is = subst (TreeResultIs outcome a.room l.levels.addresses l.reaches l.levels.starts) c.in_ok-solved.was c.solve.ensures in
    record {
      numbers = is.numbers;
      most = is.most;
      fits = is.fits;
      entries_are = entries-back outcome.written r.places r.built.entries l.levels.addresses l.reaches l.levels.starts is.held _ _ c.put_levels.ensures;
    }
