use Rattle.bbm_rules.proofs.Common.{Patterns}
use Rattle.bbm_certify.proofs.known.known.Goals as goal

pub returns : goal.returns
returns c heading ok = record {
  proper = c.law_proper.ensures heading ok;
  alike_joins = c.law_alike_joins.ensures heading;
  alike_judges = c.law_alike_judges.ensures heading Patterns;
  alike_step = c.law_alike_step.ensures heading Patterns;
  answered = c.law_answered.ensures;
  cleansed = c.law_cleansed.ensures heading;
  covers_alike = c.law_covers_alike.ensures heading Patterns;
  equality_tests = c.law_equality_tests.ensures;
  events_noted = c.law_notes_keep_the_events.ensures heading Patterns;
  fresh_content = c.law_fresh_content.ensures heading Patterns;
  last_valid = c.law_last_valid.ensures;
  one_node = c.law_one_node.ensures heading Patterns;
  one_position = c.law_one_position.ensures heading Patterns;
  pattern_steps = c.law_pattern_steps.ensures heading;
  root_pages = c.law_root_pages.ensures heading;
  tag_claim_steps = c.law_tag_claim_steps.ensures heading;
  tag_kept = c.law_tag_kept.ensures heading Patterns;
  tag_steps = c.law_tag_steps.ensures heading;
  tags = c.law_tags.ensures heading Patterns;
  takes_alike = c.law_takes_alike.ensures heading;
  tree = c.law_tree.ensures heading Patterns;
  tree_step = c.law_tree_step.ensures heading Patterns;
}
