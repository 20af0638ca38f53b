use Rattle.bbm_rules.proofs.Common.{Patterns}
use Rattle.bbm_idle.proofs.known.known.Goals as goal

pub returns : goal.returns
returns c heading ok = record {
  proper = c.law_proper.ensures heading ok;
  alike_joins = c.law_alike_joins.ensures heading;
  alike_judges = c.law_alike_judges.ensures heading Patterns Patterns;
  alike_step = c.law_alike_step.ensures heading Patterns Patterns;
  answered = c.law_answered.ensures;
  changes = c.law_changes.ensures heading Patterns;
  cleansed = c.law_cleansed.ensures heading Patterns;
  covers_alike = c.law_covers_alike.ensures heading Patterns Patterns;
  frozen = c.law_frozen.ensures heading Patterns;
  frozen_view = c.law_frozen_view.ensures heading Patterns;
  half = c.law_half.ensures heading;
  held_changes = c.law_held_changes.ensures heading Patterns;
  held_step = c.law_held_step.ensures heading Patterns;
  last_valid = c.law_last_valid.ensures;
  node_step = c.law_node_step.ensures heading Patterns;
  notes = c.law_notes.ensures heading Patterns;
  notes_keep_the_events = c.law_notes_keep_the_events.ensures heading Patterns;
  one_node = c.law_one_node.ensures heading Patterns;
  pattern_steps = c.law_pattern_steps.ensures heading;
  patterns_stay = c.law_patterns_stay.ensures heading Patterns;
  phase_parts = c.law_phase_parts.ensures heading Patterns;
  same_tags = c.law_same_tags.ensures heading;
  seen = c.law_seen.ensures heading;
  tag_kept = c.law_tag_kept.ensures heading Patterns;
  takes_alike = c.law_takes_alike.ensures heading;
  tree = c.law_tree.ensures heading Patterns;
  trees_alike = c.law_trees_alike.ensures heading Patterns Patterns;
}
