use Rattle.bbm_judge.proofs.table_rules.writes_over.Goals as goal

pub returns-in-Write : goal.returns-in-Write
returns-in-Write g c = rw c.in-Write.is (c.is_written_over.ensures c.in-Write.pe)
