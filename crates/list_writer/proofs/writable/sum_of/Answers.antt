-- `list_writer::writable::sum_of` meets its contract: std's sum is the model's.
use mathlib.Core.Path.{◌≡◌, ◌∙◌}
use borrow.Author.Rules.{rules}
use Rattle.std.specs.List as Std
use Rattle.list_writer.proofs.Sums.{list_sum}
use Rattle.list_writer.proofs.writable.sum_of.Goals as goal

pub returns : goal.returns
returns c = let folded : c.sum.result ≡ Std.sum c.args.counts.now = search rules in folded ∙ list_sum c.args.counts.now
