use Rattle.bbm_rules.proofs.Common.{subst, Answers, Trust, limit_of}
use Rattle.bbm_rules.specs.Broken.{broken}
use Rattle.bbm_oracle.proofs.oracle.Oracle.judged.Goals as goal

pub returns : goal.returns
returns c = λ heading h s.
    subst (λ (trust : Trust). Answers c.admit.result (broken heading trust h c.args.event.now) (limit_of h c.args.event.now))
    s.trust_is (c.admit.ensures heading h s.kept)
