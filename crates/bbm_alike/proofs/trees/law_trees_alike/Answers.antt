use Rattle.bbm_alike.proofs.TreesAlike.{same_tree}
use Rattle.bbm_alike.proofs.trees.law_trees_alike.Goals as goal

pub returns : goal.returns
returns c heading one other h h' roots places held =
    same_tree heading one other h h' roots places (λ n t place inside. held n place t inside)
