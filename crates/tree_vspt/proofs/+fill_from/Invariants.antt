-- `tree_vspt::fill_from` meets its contract, by recursion on how many domains are left.
use Rattle.tree_vspt.proofs.+fill_from.Given as goal

abbrev pub decreases-fill_from : goal.decreases-fill_from
decreases-fill_from l = l.left
