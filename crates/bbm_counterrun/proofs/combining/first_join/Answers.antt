use Rattle.bbm_counterrun.proofs.Common.{Entry}
use Rattle.bbm_rules.proofs.Common.{◌≡◌, ap, sym, ◌∙◌}
use Rattle.bbm_counterrun.proofs.JoinSteps.{join_some}
use Rattle.bbm_counterrun.proofs.combining.first_join.Goals as goal

pub returns-else-is_forbidden : goal.returns-else-is_forbidden
returns-else-is_forbidden c =
    let same : c.n.inside.joined ≡ c.clear.result.joined = ap (λ (x : Entry). x.joined) c.n.view_is in
    rw same (join_some c.args.search.now.header.now _ _ _ _ c.requires.within _ c.clear.ensures.free c.clear.ensures.first c.clear.ensures.later
    (rw same at (sym c.is_forbidden.ensures ∙ c.if-is_forbidden.false)))
