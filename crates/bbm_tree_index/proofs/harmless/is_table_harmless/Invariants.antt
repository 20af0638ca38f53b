use Rattle.bbm_tree_index.proofs.Common.{keys, Before, LeastOf, asks, Leaf, value_at}
use Rattle.bbm_rules.proofs.Common.{None}
use Rattle.bbm_tree_index.proofs.Leasts.{AtItem}
use Rattle.bbm_tree_index.proofs.Wrongs.{LeafKey}
use Rattle.bbm_tree_index.proofs.harmless.is_table_harmless.Given as goal

abbrev pub invariant-loop-index : goal.invariant-loop-index
invariant-loop-index l = (leaf : Leaf)
    → LeastOf (Before (AtItem (keys l.table) (LeafKey (value_at l.map) (asks leaf) l.kind l.level l.table)) l.index) None
