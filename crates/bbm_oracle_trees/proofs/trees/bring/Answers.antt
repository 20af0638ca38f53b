use Rattle.bbm_rules.proofs.Common.{refl, sym, ◌∙◌}
use Rattle.bbm_oracle_trees.specs.declared.trees.Trees.{Trees}
use Rattle.bbm_oracle_trees.proofs.Keeping.{left_trees}
use Rattle.bbm_oracle_trees.proofs.trees.bring.Goals as goal

pub returns-then-leaves_trees : goal.returns-then-leaves_trees
returns-then-leaves_trees g c =
    let new : Trees = record {
      nodes = c.args.trees.now.nodes;
      fresh = c.args.trees.now.fresh;
      clean = c.in_ok-trees.field-0;
    } in
    record {
      after = left_trees c.args.log.now c.args.event.now c.args.trees.now c.requires new
          (rw c.deref.ensures.value at (sym c.leaves_trees.ensures ∙ c.if-leaves_trees.true)) refl refl
          (λ on page. rw (c.deref-then-leaves_trees.ensures.value, c.deref-then-leaves_trees-2.ensures.value) at (c.in_ok-trees.ensures on page));
      unchanged = tt;
    }
