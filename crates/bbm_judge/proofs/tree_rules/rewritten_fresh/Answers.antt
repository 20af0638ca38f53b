use Rattle.bbm_judge.proofs.tree_rules.rewritten_fresh.Goals as goal

pub returns-in-Write : goal.returns-in-Write
returns-in-Write g c = rw c.in-Write.is (c.rewrite.ensures c.in-Write.pe)
