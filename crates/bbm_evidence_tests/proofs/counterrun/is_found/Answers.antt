use Rattle.bbm_rules.proofs.Common.{AllPass-from_list_all, fits_heading}
use Rattle.bbm_evidence_tests.proofs.counterrun.is_found.Goals as goal

pub find-requires : goal.find-requires
find-requires c = record {
  fits = AllPass-from_list_all (fits_heading c.in_ok-header.header) c.in_ok-events.events.items c.in_ok-events.ensures;
}
