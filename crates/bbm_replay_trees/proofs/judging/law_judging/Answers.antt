use Rattle.bbm_rules.proofs.Common.{◌∙◌, sym, page_of}
use Rattle.bbm_replay_trees.proofs.AttachLemmas.{core_none, root_judging, write_judging}
use Rattle.bbm_rules.proofs.TreeLaw.{table_level}
use Rattle.bbm_replay_trees.proofs.judging.law_judging.Goals as goal

pub returns : goal.returns
returns c heading = let b = c.below.ensures heading in record {
  root = λ h view pe page kind lock proper fit same_fresh same_value.
      root_judging heading b h fit view.fresh view.value same_fresh same_value proper pe page kind lock;
  write = λ h view n pe place v next fit same same_fresh same_value same_core is empty table.
      let at = sym (same (page_of place)) ∙ is in
      write_judging heading b h n pe place v at fit view.fresh view.value same_fresh same_value next
      (core_none heading b h n place (sym (same_core n place at) ∙ empty)) table;
  level = table_level;
}
