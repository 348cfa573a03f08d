-- `bound::total_float` meets its contract: the library's cast gives the nearest float, which is in range.
use Rattle.std.proofs.Common.{ap, ◌∙◌, rules}
use Rattle.model.specs.Floats.{float_of, in_range}
use Rattle.laws.proofs.NearestFloat.{float_nearest}
use Rattle.bound.proofs.total_float.Goals as goal

pub returns : goal.returns
unfolding float_of
returns c =
    let total = c.args.total in
    let is = c.nearest_u32_to_f32.ensures in
    (is, ap in_range is ∙ (float_nearest total (search rules)).range)
