use Rattle.bbm_judge.proofs.tree_rules.limbo_make.Goals as goal

pub returns-in-Write : goal.returns-in-Write
returns-in-Write g c = rw c.in-Write.is (c.write_in_limbo.ensures c.in-Write.pe)
