use Rattle.bbm_rules.proofs.Common.{arith, AllPass-from_list_all, fits_heading}
use Rattle.bbm_evidence_tests.proofs.certificates.judged.Goals as goal

pub verify-requires : goal.verify-requires
verify-requires c = record {
  fits = AllPass-from_list_all (fits_heading c.in_ok-header.header) c.in_ok-events.events.items c.in_ok-events.ensures;
  few = omega (arith, c.len.ensures, c.if-len-gt100);
}
