use Rattle.bbm_rules.proofs.Common.{Patterns}
use Rattle.bbm_roots.proofs.laws_below.laws_below.Goals as goal

pub returns : goal.returns
returns c heading = record {
  proper = c.law_proper.ensures heading;
  bases = c.law_bases.ensures heading Patterns;
  each_rule = c.law_each_rule.ensures heading Patterns;
  equality_tests = c.law_equality_tests.ensures;
  notes_keep_the_events = c.law_notes_keep_the_events.ensures heading Patterns;
  readable_tag = c.law_readable_tag.ensures heading;
  root = c.law_root.ensures;
  tag_left = c.law_tag_left.ensures heading Patterns;
  tag_set = c.law_tag_set.ensures heading Patterns;
  tags = c.law_tags.ensures heading Patterns;
}
