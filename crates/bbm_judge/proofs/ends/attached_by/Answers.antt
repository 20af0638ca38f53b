use Rattle.bbm_rules.proofs.Common.{IfOk-weaker}
use Rattle.bbm_judge.proofs.ends.attached_by.Goals as goal

pub returns-in-Write : goal.returns-in-Write
returns-in-Write g c =
    IfOk-weaker c.attached_by_write.result _ _ (λ a e. rw c.in-Write.is (e c.in-Write.pe)) c.attached_by_write.ensures
