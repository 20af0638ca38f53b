use Rattle.bbm_rules.proofs.EqualityLaw.{claims, kinds, regs, tags}
use Rattle.bbm_rules.proofs.event_laws.law_equality_tests.Goals as goal

pub returns : goal.returns
returns c = record {
  tags = tags;
  registers = regs;
  kinds = kinds;
  claims = claims;
}
