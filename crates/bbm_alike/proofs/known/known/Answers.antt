use Rattle.bbm_alike.proofs.known.known.Goals as goal

pub returns : goal.returns
returns c heading = record {
  childless_step = c.law_childless_step.ensures heading;
  claim_steps = c.law_claim_steps.ensures heading;
  cleansed = c.law_cleansed.ensures heading;
  equality_tests = c.law_equality_tests.ensures;
  fresh_content = c.law_fresh_content.ensures heading;
  half = c.law_half.ensures heading;
  held = c.law_held.ensures heading;
  held_step = c.law_held_step.ensures heading;
  last_valid = c.law_last_valid.ensures;
  notes_keep_the_events = c.law_notes_keep_the_events.ensures heading;
  one_position = c.law_one_position.ensures heading;
  pattern_steps = c.law_pattern_steps.ensures heading;
  phase_parts = c.law_phase_parts.ensures heading;
  seen = c.law_seen.ensures heading;
  tag_kept = c.law_tag_kept.ensures heading;
  tag_steps = c.law_tag_steps.ensures heading;
  tree_step = c.law_tree_step.ensures heading;
  tree = c.law_tree.ensures heading;
}
