use Rattle.bbm_tree_index.proofs.Wrongs.{Clear}
use Rattle.bbm_tree_index.proofs.judge.is_elsewhere.Given as goal

abbrev pub invariant-loop-other : goal.invariant-loop-other
invariant-loop-other l = Clear l.tables l.level l.page l.other
