use Rattle.bbm_rules.proofs.Common.{sym, ◌∙◌}
use Rattle.bbm_counterrun.proofs.ChoiceSteps.{best_next}
use Rattle.bbm_counterrun.proofs.trying.try_next.Goals as goal

pub returns : goal.returns
returns c numbers best =
    best_next _ numbers c.args.number c.args.best c.better.result c.in_ok-found.found
    (sym c.is_behind.ensures ∙ c.if-is_behind.false) c.in_ok-found.ensures c.better.ensures best
