use Rattle.bbm_rules.proofs.Common.{Patterns}
use Rattle.bbm_replay_trees.proofs.below.below.Goals as goal

pub returns : goal.returns
returns c heading = record {
  attached_tables = c.law_attached_tables.ensures heading Patterns;
  core_where_valid = c.law_core_where_valid.ensures;
  childless_step = c.law_childless_step.ensures heading Patterns;
  each_rule = c.law_each_rule.ensures heading Patterns;
  fresh_content = c.law_fresh_content.ensures heading Patterns;
  fresh_step = c.law_fresh_step.ensures heading Patterns;
  held = c.law_held.ensures heading Patterns;
  held_changes = c.law_held_changes.ensures heading Patterns;
  held_step = c.law_held_step.ensures heading Patterns;
  mapped = c.law_mapped.ensures heading Patterns;
  mapped_step = c.law_mapped_step.ensures heading Patterns;
  node_step = c.law_node_step.ensures heading Patterns;
  notes_keep_the_events = c.law_notes_keep_the_events.ensures heading Patterns;
  one_node = c.law_one_node.ensures heading Patterns;
  one_position = c.law_one_position.ensures heading Patterns;
  paths = c.law_paths.ensures heading Patterns;
  repeated = c.law_repeated.ensures heading Patterns;
  root_pages = c.law_root_pages.ensures heading;
  tables_clean = c.law_tables_are_clean.ensures heading Patterns;
  tree = c.law_tree.ensures heading Patterns;
}
