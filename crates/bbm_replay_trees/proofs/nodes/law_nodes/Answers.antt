use Rattle.bbm_rules.proofs.Common.{[], ◌∷◌, None, sym, ◌∙◌, Root, Write, page_of, node_below, nodes_of_root}
use Rattle.bbm_tree_index.specs.Paths.{Attached}
use Rattle.bbm_replay_trees.proofs.AttachLemmas.{core_none}
use Rattle.bbm_replay_trees.proofs.NodeLemmas.{after_attach, after_dsb, after_nothing, after_quiet, after_unroot}
use Rattle.bbm_replay_trees.proofs.NodeLemmas.{root_mine, root_theirs, write_mine, write_theirs}
use Rattle.bbm_replay_trees.proofs.nodes.law_nodes.Goals as goal

pub returns : goal.returns
returns c heading = let b = c.below.ensures heading in record {
  root = λ h old new pe page kind lock proper fit kept same same_fresh same_value iff.
      after_attach heading b h old.node same new.node (Root pe kind lock page) proper kept
      (λ q dsb k. cc) (λ q first k. cc)
      (Attached old.fresh old.value (nodes_of_root heading (record { page = page; kind = kind; lock = None })))
      (root_mine heading b h fit old.fresh old.value same_fresh same_value pe page kind lock)
      (root_theirs heading b h fit old.fresh old.value same_fresh same_value pe page kind lock) iff;
  write = λ h old new n pe place v next proper fit kept same same_fresh same_value same_core is empty table iff.
      let at = sym (same (page_of place)) ∙ is in
      let none = core_none heading b h n place (sym (same_core n place at) ∙ empty) in
      after_attach heading b h old.node same new.node (Write pe place v) proper kept
      (λ q dsb k. cc) (λ q first k. cc) (Attached old.fresh old.value (node_below n place next ∷ []))
      (write_mine heading b h fit old.fresh old.value same_fresh same_value n pe place v next at none table)
      (write_theirs heading b h fit old.fresh old.value same_fresh same_value n pe place v next at none table) iff;
  unroot = λ h old new pe page proper kept same is.
      after_unroot heading b h old.node same new.node pe page proper kept is;
  dsb = λ h old new holds pe dsb kept same told is.
      after_dsb heading b h old.node same new.node holds pe dsb kept told is;
  plain_write = λ h view pe place v proper kept none same.
      after_nothing heading b h view.node same (Write pe place v) proper kept (λ q dsb k. cc) (λ q first k. cc) none;
  others = λ h view e proper kept quiet same. after_quiet heading b h view.node same e proper kept quiet;
}
