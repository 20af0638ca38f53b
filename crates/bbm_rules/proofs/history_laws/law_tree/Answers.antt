use Rattle.bbm_rules.proofs.TreeLaw.{node_taken, tree_below, tree_complete, tree_has, tree_sound}
use Rattle.bbm_rules.proofs.history_laws.law_tree.Goals as goal

pub returns : goal.returns
returns c heading trust = record {
  sound = tree_sound heading trust;
  complete = tree_complete heading trust;
  below = tree_below heading trust;
  taken = node_taken heading trust;
  has = tree_has heading trust;
}
