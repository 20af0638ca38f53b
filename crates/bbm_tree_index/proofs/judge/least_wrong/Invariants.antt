use Rattle.bbm_tree_index.proofs.Common.{Before, LeastOf, WrongIn, fresh_of}
use Rattle.bbm_tree_index.proofs.Leasts.{AtItem}
use Rattle.bbm_tree_index.proofs.judge.least_wrong.Given as goal

abbrev pub invariant-loop-level : goal.invariant-loop-level
invariant-loop-level l = LeastOf (Before (AtItem l.tables (WrongIn l.tables (fresh_of l.roles) l.named)) l.level) l.least
