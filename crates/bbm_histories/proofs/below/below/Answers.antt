use Rattle.bbm_histories.proofs.below.below.Goals as goal

pub returns : goal.returns
returns c heading trust = record {
  core_where_valid = c.law_core_where_valid.ensures;
  same_core_is_equal = c.law_same_core_is_equal.ensures;
  no_need = c.law_no_need_of_equal_cores.ensures;
  attaching = c.law_attaching.ensures heading trust;
  childless = c.law_childless.ensures heading trust;
  each_rule = c.law_each_rule.ensures heading trust;
  equality_tests = c.law_equality_tests.ensures;
  global_user = c.law_global_user.ensures heading trust;
  half = c.law_half.ensures heading;
  held = c.law_held.ensures heading trust;
  last_valid = c.law_last_valid.ensures;
  limbo = c.law_limbo.ensures;
  mapped = c.law_mapped.ensures heading trust;
  notes = c.law_notes.ensures heading trust;
  notes_keep_the_events = c.law_notes_keep_the_events.ensures heading trust;
  paths = c.law_paths.ensures heading trust;
  published = c.law_published.ensures heading;
  readable_tag = c.law_readable_tag.ensures heading;
  readable_value = c.law_readable_value.ensures heading;
  root = c.law_root.ensures;
  root_pages = c.law_root_pages.ensures heading;
  seen = c.law_seen.ensures heading;
  table_mapped = c.law_table_mapped.ensures heading trust;
  tag_kept = c.law_tag_kept.ensures heading trust;
  tag_held = c.law_tag_held.ensures heading trust;
  tag_rules = c.law_tag_rules.ensures heading trust;
  tree = c.law_tree.ensures heading trust;
}
