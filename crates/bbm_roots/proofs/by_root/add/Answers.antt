use Rattle.bbm_roots.proofs.Common.{◌∙◌, ap, is_some}
use Rattle.bbm_roots.proofs.Keys.{written-more}
use Rattle.bbm_roots.proofs.by_root.add.Goals as goal

pub returns-in-Ok-clause-kept : goal.returns-in-Ok-clause-kept
returns-in-Ok-clause-kept c = λ q there. ap is_some (c.in-Ok.ensures.updates.0 q) ∙ written-more _ _ _ there
