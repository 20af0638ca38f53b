use Rattle.bbm_rules.proofs.Common.{Patterns, ap, in_tree, is_fresh, is_some, or_right}
use Rattle.bbm_rules.proofs.Common.{[], ◌∷◌, None, refl, sym, ◌∙◌, Root, Write, page_of, node_below, nodes_of_root}
use Rattle.bbm_tree_index.specs.Paths.{Attached}
use Rattle.bbm_replay_trees.specs.Told.{notes}
use Rattle.bbm_replay_trees.proofs.AttachLemmas.{core_none, outside_none}
use Rattle.bbm_replay_trees.proofs.GuardLemmas.{inside_writes}
use Rattle.bbm_replay_trees.proofs.NodeLemmas.{root_mine, root_theirs, write_mine, write_theirs}
use Rattle.bbm_replay_trees.proofs.TableLemmas.{attach_rule, outside_rule, root_unbroken, rule_off, table_maps}
use Rattle.bbm_replay_trees.proofs.TableLemmas.{write_rule, write_unbroken}
use Rattle.bbm_replay_trees.proofs.guarding.law_judges_tables.Goals as goal

pub returns : goal.returns
returns c heading = let b = c.below.ensures heading in record {
  off = λ h e k. rule_off heading (notes heading h) e k;
  tables = λ h view page free may on kept same g there.
      let here = sym (ap is_some (same page)) ∙ there in
      g.clean page (or_right (is_fresh heading Patterns (notes heading h) page) (in_tree heading Patterns (notes heading h) page) here)
      ∙ b.tables_clean.clean h on kept page here;
  outside = λ h view pe place v same is.
      let at = sym (same (page_of place)) ∙ is in
      outside_rule heading b h view.node same pe place v (outside_none heading b h pe place v at) at;
  write = λ h view n pe place v o on same is none least.
      write_rule heading b h view.node same pe place v none n o on (sym (same (page_of place)) ∙ is) least;
  root = λ h view pe page kind lock free may o on proper fit kept unbroken same same_fresh same_value g least.
      attach_rule heading b h fit view.value same_value (Root pe kind lock page) proper kept
      (root_unbroken heading (notes heading h) pe page kind lock unbroken)
      (Attached view.fresh view.value (nodes_of_root heading (record { page = page; kind = kind; lock = None })))
      (root_mine heading b h fit view.fresh view.value same_fresh same_value pe page kind lock)
      (root_theirs heading b h fit view.fresh view.value same_fresh same_value pe page kind lock)
      (λ p. refl) view.node same free may g on o least;
  attaching = λ h view n pe place v next free may o on proper fit kept unbroken same same_fresh same_value same_core is
      empty table g least.
      let at = sym (same (page_of place)) ∙ is in
      let none = core_none heading b h n place (sym (same_core n place at) ∙ empty) in
      attach_rule heading b h fit view.value same_value (Write pe place v) proper kept
      (write_unbroken heading (notes heading h) pe place v unbroken)
      (Attached view.fresh view.value (node_below n place next ∷ []))
      (write_mine heading b h fit view.fresh view.value same_fresh same_value n pe place v next at none table)
      (write_theirs heading b h fit view.fresh view.value same_fresh same_value n pe place v next at none table)
      (λ p. inside_writes heading (notes heading h) pe place v n p at ∙ table_maps n.kind n.level v next p table)
      view.node same free may g on o least;
}
