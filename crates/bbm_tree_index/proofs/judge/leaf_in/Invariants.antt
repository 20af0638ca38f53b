use Rattle.bbm_tree_index.proofs.Common.{keys, Before, LeastOf, asks, value_at}
use Rattle.bbm_tree_index.proofs.Leasts.{AtItem}
use Rattle.bbm_tree_index.proofs.Wrongs.{LeafKey}
use Rattle.bbm_tree_index.proofs.judge.leaf_in.Given as goal

abbrev pub invariant-loop-index : goal.invariant-loop-index
invariant-loop-index l =
    LeastOf (Before (AtItem (keys l.table) (LeafKey (value_at l.map) (asks l.leaf) l.kind l.level l.table)) l.index) l.least
