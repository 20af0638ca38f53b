use Rattle.bbm_rules.proofs.Common.{◌≡◌, true, fits_heading, every}
use Rattle.bbm_evidence_tests.proofs.lines.events_of.Given as goal

abbrev pub invariant-loop-line : goal.invariant-loop-line
invariant-loop-line l = every (fits_heading l.header) l.events.items ≡ true
