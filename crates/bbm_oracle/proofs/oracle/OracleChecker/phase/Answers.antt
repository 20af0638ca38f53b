use Rattle.bbm_rules.proofs.Common.{◌∙◌, ap, Trust}
use Rattle.bbm_rules.specs.Phases.{phase_of}
use Rattle.bbm_oracle.proofs.oracle.OracleChecker.phase.Goals as goal

pub returns : goal.returns
returns c = λ heading h s.
    c.phase.ensures.stands heading h s.kept
    ∙ ap (λ (trust : Trust). phase_of heading trust h c.args.place c.args.pe) s.trust_is
