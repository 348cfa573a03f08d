-- `path_series::calls::make_calls` meets its contract. The loop's invariant: what the calls made left, with the replies to those still to make, are all the replies (`Progress`).
use Rattle.request.specs.CheckedRequest.{request_for}
use Rattle.path_series.proofs.Steps.{Progress}
use Rattle.path_series.proofs.calls.make_calls.Given as goal

abbrev pub invariant-loop-j : goal.invariant-loop-j
invariant-loop-j l = Progress (request_for l.profile l.asked l.include l.exclude) l.kinds l.sizes l.initial.buffers l.initial.numbers l.buffers l.numbers l.last l.at l.j
