use Rattle.bbm_judge.proofs.tree_rules.break_before_make.Goals as goal

pub returns-in-Write : goal.returns-in-Write
returns-in-Write g c = rw c.in-Write.is (c.unbroken_write.ensures c.in-Write.pe)
