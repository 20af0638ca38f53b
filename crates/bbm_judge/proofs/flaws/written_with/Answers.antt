use Rattle.bbm_judge.proofs.flaws.written_with.Goals as goal

pub returns-in-Write : goal.returns-in-Write
returns-in-Write g c = rw c.in-Write.is (c.written_at.ensures c.in-Write.pe)
