use Rattle.bbm_tree_index.proofs.climb.+is_cut.Given as goal

abbrev pub decreases-is_cut : goal.decreases-is_cut
decreases-is_cut l = l.level
