use Rattle.bbm_rules.proofs.Common.{refl, sym}
use Rattle.bbm_claims.proofs.Takers.{none_taken}
use Rattle.bbm_claims.proofs.taken.takes_away.Goals as goal

pub returns-in-None : goal.returns-in-None
returns-in-None c =
    sym (none_taken c.args.header.now c.args.taking.now.pe c.args.taking.now.tag (c.known.ensures c.args.header.now)
    c.args.answer.now.issuer c.args.answer.now.dsb c.args.taking.now.t c.args.before.now (c.in-None.ensures.none refl))
