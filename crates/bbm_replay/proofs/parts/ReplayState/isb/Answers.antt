use Rattle.bbm_rules.proofs.Common.{refl, Ok, Isb}
use Rattle.bbm_replay.proofs.Meeting.{meets_judged}
use Rattle.bbm_replay.proofs.parts.ReplayState.isb.Goals as goal

pub returns : goal.returns
returns c = meets_judged c.laws.ensures c.args.self.now c.isb.new.self (Isb c.args.pe) c.requires refl (Ok tt)
    (λ heading h s. c.law_barriers.ensures.isb heading h c.args.pe) (λ h. c.law_barriers.ensures.isb_limit h c.args.pe)
    c.isb.ensures tt
