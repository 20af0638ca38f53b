use Rattle.bbm_certify.proofs.Common.{IsCertificate, IsMaking}
use Rattle.bbm_rules.proofs.Common.{take, reverse}
use Rattle.bbm_certify.proofs.making.make.Given as goal

abbrev pub invariant-loop-event : goal.invariant-loop-event
invariant-loop-event l = record {
  making : IsMaking l.making l.header (reverse (take l.event-index l.log));
  claims : IsCertificate l.header (reverse (take l.event-index l.log)) l.claims.items;
}
