use Rattle.bbm_rules.proofs.Common.{◌∙◌, ap, Trust}
use Rattle.bbm_rules.specs.Phases.{restless_of}
use Rattle.bbm_oracle.proofs.oracle.OracleChecker.restless.Goals as goal

pub returns : goal.returns
returns c = λ heading h s.
    c.count_restless.ensures heading h s.kept ∙ ap (λ (trust : Trust). restless_of heading trust h) s.trust_is
