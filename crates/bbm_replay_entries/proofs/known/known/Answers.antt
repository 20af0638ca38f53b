use Rattle.bbm_rules.proofs.Common.{Patterns}
use Rattle.bbm_replay_entries.proofs.known.known.Goals as goal

pub returns : goal.returns
returns c heading = record {
  core_where_valid = c.law_core_where_valid.ensures;
  fresh_content = c.law_fresh_content.ensures heading Patterns;
  held = c.law_held.ensures heading Patterns;
  held_changes = c.law_held_changes.ensures heading Patterns;
  held_step = c.law_held_step.ensures heading Patterns;
  last_valid = c.law_last_valid.ensures;
  notes_keep_the_events = c.law_notes_keep_the_events.ensures heading Patterns;
  pattern_steps = c.law_pattern_steps.ensures heading;
}
