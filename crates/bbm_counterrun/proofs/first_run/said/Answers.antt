use Rattle.bbm_rules.proofs.Common.{◌≡◌, subst, true, heading_ok}
use Rattle.bbm_events.specs.Heading.{Heading}
use Rattle.bbm_counterrun.proofs.first_run.said.Goals as goal

pub returns : goal.returns
returns c = subst (λ (h : Heading). heading_ok h ≡ true) c.header.view_is c.header.invariant
