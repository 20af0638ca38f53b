use Rattle.bbm_rules.proofs.Common.{Patterns}
use Rattle.bbm_idle.proofs.known.terms.Goals as goal

pub returns : goal.returns
returns c heading = record {
  answered = c.law_answered.ensures;
  cleansed = c.law_cleansed.ensures heading Patterns;
  equality_tests = c.law_equality_tests.ensures;
  half = c.law_half.ensures heading;
  last_valid = c.law_last_valid.ensures;
  notes_keep_the_events = c.law_notes_keep_the_events.ensures heading Patterns;
  phase_parts = c.law_phase_parts.ensures heading Patterns;
  seen = c.law_seen.ensures heading;
  tag_kept = c.law_tag_kept.ensures heading Patterns;
}
