use Rattle.bbm_rules.proofs.Common.{◌≡◌, rules}
use Rattle.bbm_counterrun.proofs.FoundSteps.{none_more}
use Rattle.bbm_counterrun.proofs.finding.try_start.Goals as goal

pub loop-number-preserved : goal.loop-number-preserved
loop-number-preserved c =
    let at : c.unwrap-pe.result ≡ c.loop-number.number = search rules in
    record { none = none_more _ c.loop-number.number c.loop-number.invariant.none (rw (c.in-None.is, at) at c.in_ok-found.ensures) }
