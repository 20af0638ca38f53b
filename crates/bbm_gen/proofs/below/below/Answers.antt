use Rattle.bbm_rules.proofs.Common.{refl}
use Rattle.bbm_rules.specs.Claims.{Patterns}
use Rattle.bbm_gen.specs.Generated.{heading}
use Rattle.bbm_gen.proofs.below.below.Goals as goal

pub returns : goal.returns
returns c = record {
  proper = c.law_proper.ensures heading refl;
  held_changes = c.law_held_changes.ensures heading Patterns;
  notes_keep_the_events = c.law_notes_keep_the_events.ensures heading Patterns;
  one_node = c.law_one_node.ensures heading Patterns;
  tree_step = c.law_tree_step.ensures heading Patterns;
}
