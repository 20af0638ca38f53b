use Rattle.bbm_rules.proofs.Common.{IfOk-weaker}
use Rattle.bbm_judge.proofs.page_rules.page_in_use.Goals as goal

pub returns-in-Init : goal.returns-in-Init
returns-in-Init g c = rw c.in-Init.is (c.used_by_init.ensures c.in-Init.pe)

pub returns-in-Null : goal.returns-in-Null
returns-in-Null g c =
    IfOk-weaker c.used_by_null.result _ _ (λ at e. rw c.in-Null.is (e c.in-Null.pe)) c.used_by_null.ensures
