-- `tree_vspt::fill_before` meets its contract, by recursion on how many places are left.
use Rattle.tree_vspt.proofs.+fill_before.Given as goal

abbrev pub decreases-fill_before : goal.decreases-fill_before
decreases-fill_before l = l.n
