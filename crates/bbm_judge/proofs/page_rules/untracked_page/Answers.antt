use Rattle.bbm_rules.proofs.Common.{sym}
use Rattle.bbm_judge.proofs.page_rules.untracked_page.Goals as goal

pub returns-in-Write : goal.returns-in-Write
returns-in-Write g c =
    rw c.in-Write.is (c.untracked.ensures c.in-Write.pe c.in-Write.place c.in-Write.value (sym c.page.ensures))
