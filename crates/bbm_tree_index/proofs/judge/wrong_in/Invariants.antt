use Rattle.bbm_tree_index.proofs.Common.{Before, LeastOf, fresh_of}
use Rattle.bbm_tree_index.proofs.Wrongs.{WrongKey}
use Rattle.bbm_tree_index.proofs.judge.wrong_in.Given as goal

abbrev pub invariant-loop-index : goal.invariant-loop-index
invariant-loop-index l = LeastOf (Before (WrongKey l.tables (fresh_of l.roles) l.named l.level l.table) l.index) l.least
