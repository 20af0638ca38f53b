use Rattle.bbm_judge.proofs.tree_rules.no_lock.Goals as goal

pub returns-in-Write : goal.returns-in-Write
returns-in-Write g c = rw c.in-Write.is (c.unlocked_write.ensures c.in-Write.value)
