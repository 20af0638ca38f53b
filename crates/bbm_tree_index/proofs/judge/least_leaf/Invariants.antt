use Rattle.bbm_tree_index.proofs.Common.{Before, LeastOf, asks, value_at}
use Rattle.bbm_tree_index.proofs.Leasts.{AtItem}
use Rattle.bbm_tree_index.proofs.Wrongs.{LeafTable}
use Rattle.bbm_tree_index.proofs.judge.least_leaf.Given as goal

abbrev pub invariant-loop-depth : goal.invariant-loop-depth
invariant-loop-depth l = LeastOf (Before (AtItem l.tables (LeafTable (value_at l.map) (asks l.leaf) l.kind l.start)) l.depth) l.least
