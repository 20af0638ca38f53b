use Rattle.bbm_tlb_machine.proofs.safety.known.Goals as goal

pub returns : goal.returns
returns c heading trust ok = record {
  proper = c.law_proper.ensures heading ok;
  need = λ kind level old new. (c.law_need.ensures kind level old new).0;
  same_cores = λ one other. (c.law_same_core_is_equal.ensures one other).0;
  full_takes = c.law_cover_takes.ensures.full;
  half_takes = c.law_cover_takes.ensures.half;
  second_takes = c.law_cover_takes.ensures.second;
  taken_covers = c.law_taken_is_covered.ensures;
  whole_tag_takes = c.law_whole_tag_takes.ensures;
  answered = c.law_answered.ensures;
  childless = c.law_childless.ensures heading trust;
  each_rule = c.law_each_rule.ensures heading trust;
  equality_tests = c.law_equality_tests.ensures;
  frozen_view = c.law_frozen_view.ensures heading trust;
  held = c.law_held.ensures heading trust;
  held_changes = c.law_held_changes.ensures heading trust;
  last_valid = c.law_last_valid.ensures;
  limbo_is_empty = c.law_limbo_is_empty.ensures heading trust;
  lower_leaves = c.law_lower_leaves.ensures heading trust;
  mapped = c.law_mapped.ensures heading trust;
  notes = c.law_notes.ensures heading trust;
  notes_keep_the_events = c.law_notes_keep_the_events.ensures heading trust;
  one_node = c.law_one_node.ensures heading trust;
  one_position = c.law_one_position.ensures heading trust;
  patterns_stay = c.law_patterns_stay.ensures heading trust;
  readable_tag = c.law_readable_tag.ensures heading;
  root = c.law_root.ensures;
  root_pages = c.law_root_pages.ensures heading;
  seen = c.law_seen.ensures heading;
  tables_clean = c.law_tables_are_clean.ensures heading trust;
  tag_held = c.law_tag_held.ensures heading trust;
  tag_kept = c.law_tag_kept.ensures heading trust;
  tag_left = c.law_tag_left.ensures heading trust;
  tag_set = c.law_tag_set.ensures heading trust;
  tags = c.law_tags.ensures heading trust;
  tree = c.law_tree.ensures heading trust;
  uniform = c.law_uniform.ensures heading;
  window = c.law_window.ensures heading trust;
}
