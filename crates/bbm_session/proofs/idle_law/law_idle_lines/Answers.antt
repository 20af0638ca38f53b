use Rattle.bbm_idle.specs.Idle.{idle_marks, is_idle}
use Rattle.bbm_session.proofs.IdleLines.{as_it_was, listed, still_accepted}
use Rattle.bbm_session.proofs.idle_law.law_idle_lines.Goals as goal

pub returns-clause-listed : goal.returns-clause-listed
returns-clause-listed c heading h count = listed (idle_marks heading h)

pub returns-clause-whole : goal.returns-clause-whole
returns-clause-whole c limits bytes count accepted = as_it_was limits (record {
  headers = c.law_header_in_range.ensures;
  items = c.law_item_fits.ensures;
  lines = c.law_written_is_a_line.ensures;
  read = c.law_written_is_read.ensures;
  once = c.law_one_line.ensures.item;
}) bytes count accepted

pub returns-clause-accepted : goal.returns-clause-accepted
returns-clause-accepted c limits bytes count heading accepted header = still_accepted limits (record {
  headers = c.law_header_in_range.ensures;
  items = c.law_item_fits.ensures;
  lines = c.law_written_is_a_line.ensures;
  read = c.law_written_is_read.ensures;
  once = c.law_one_line.ensures.item;
}) bytes count accepted (λ g ok. record {
  judged = λ h e kept. c.law_idle.ensures.judged g h (is_idle g) e ok (λ older x idle. idle) kept;
  limits_stay = λ h kept. let alike = c.law_idle.ensures.alike g h (is_idle g) ok (λ older x idle. idle) kept in
      record { roots = alike.roots; registers = alike.registers.values };
}) heading header
