use Rattle.bbm_rules.proofs.Common.{◌∙◌}
use Rattle.bbm_judge.proofs.Stands.{restless_stands}
use Rattle.bbm_judge.proofs.restless.count_restless.Goals as goal

pub returns : goal.returns
returns g c = λ heading h s. c.count_written.ensures ∙ restless_stands c.args.history.now heading h s
