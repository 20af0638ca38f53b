use Rattle.bbm_counterrun.proofs.Common.{Patterns}
use Rattle.bbm_counterrun.proofs.LeastReads.{least_list}
use Rattle.bbm_counterrun.proofs.least_list.law_least_reads.Goals as goal

pub returns : goal.returns
returns c heading = least_list heading (record {
  runs = c.law_run.ensures;
  fine = c.law_fine.ensures heading Patterns;
  cores = λ one other. (c.law_same_core_is_equal.ensures one other).0;
  held = c.law_held.ensures heading Patterns;
  tree = c.law_tree.ensures heading Patterns;
  root_pages = c.law_root_pages.ensures heading;
  one_node = c.law_one_node.ensures heading Patterns;
})
