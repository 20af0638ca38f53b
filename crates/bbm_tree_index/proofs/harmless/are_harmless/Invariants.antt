use Rattle.bbm_tree_index.proofs.Common.{Before, LeastOf, asks, Leaf, value_at}
use Rattle.bbm_rules.proofs.Common.{None}
use Rattle.bbm_tree_index.proofs.Leasts.{AtItem}
use Rattle.bbm_tree_index.proofs.Wrongs.{LeafTable}
use Rattle.bbm_tree_index.proofs.harmless.are_harmless.Given as goal

abbrev pub invariant-loop-depth : goal.invariant-loop-depth
invariant-loop-depth l = (leaf : Leaf)
    → LeastOf (Before (AtItem l.tables (LeafTable (value_at l.map) (asks leaf) l.kind l.start)) l.depth) None
