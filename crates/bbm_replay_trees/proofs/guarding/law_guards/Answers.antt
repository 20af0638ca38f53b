use Rattle.bbm_rules.proofs.Common.{[], ◌∷◌, None, refl, sym, ◌∙◌, and_parts, Root, Write, keeps, Patterns}
use Rattle.bbm_rules.proofs.Common.{page_of, node_below, nodes_of_root}
use Rattle.bbm_tree_index.specs.Paths.{Attached}
use Rattle.bbm_replay_trees.specs.Told.{notes}
use Rattle.bbm_replay_trees.proofs.AttachLemmas.{core_none}
use Rattle.bbm_replay_trees.proofs.GuardLemmas.{init, inside_writes, others, outside, start, write}
use Rattle.bbm_replay_trees.proofs.NodeLemmas.{root_mine, root_theirs, write_mine, write_theirs}
use Rattle.bbm_replay_trees.proofs.TableLemmas.{attach, table_maps}
use Rattle.bbm_replay_trees.proofs.guarding.law_guards.Goals as goal

pub returns : goal.returns
returns c heading = let b = c.below.ensures heading in record {
  start = start heading;
  others = λ h e free may proper kept quiet g. others heading b h e free may proper kept quiet g;
  outside = λ h view pe place v free may proper kept same is g.
      outside heading b h pe place v free may proper kept (sym (same (page_of place)) ∙ is) g;
  write = λ h view n pe place v free free' may may' proper kept same is none covers g.
      write heading b h n pe place v free free' may may' proper kept (sym (same (page_of place)) ∙ is) none covers g;
  root = λ h view pe page kind lock free free' may may' proper fit kept same same_fresh same_value covers g.
      attach heading b h fit view.value same_value (Root pe kind lock page) proper
      (and_parts (keeps heading Patterns h) _ kept).0
      (λ rule apart. b.each_rule.sound (Root pe kind lock page ∷ h) [] h (Root pe kind lock page) kept refl rule)
      (Attached view.fresh view.value (nodes_of_root heading (record { page = page; kind = kind; lock = None })))
      (root_mine heading b h fit view.fresh view.value same_fresh same_value pe page kind lock)
      (root_theirs heading b h fit view.fresh view.value same_fresh same_value pe page kind lock)
      (λ p. refl) kept (λ p. refl) free free' may may' covers g;
  attaching = λ h view n pe place v next free free' may may' proper fit kept same same_fresh same_value same_core is
      empty table covers g.
      let at = sym (same (page_of place)) ∙ is in
      let none = core_none heading b h n place (sym (same_core n place at) ∙ empty) in
      attach heading b h fit view.value same_value (Write pe place v) proper
      (and_parts (keeps heading Patterns h) _ kept).0
      (λ rule apart. b.each_rule.sound (Write pe place v ∷ h) [] h (Write pe place v) kept refl rule)
      (Attached view.fresh view.value (node_below n place next ∷ []))
      (write_mine heading b h fit view.fresh view.value same_fresh same_value n pe place v next at none table)
      (write_theirs heading b h fit view.fresh view.value same_fresh same_value n pe place v next at none table)
      (λ p. inside_writes heading (notes heading h) pe place v n p at ∙ table_maps n.kind n.level v next p table)
      kept (λ p. refl) free free' may may' covers g;
  init = init heading b;
}
