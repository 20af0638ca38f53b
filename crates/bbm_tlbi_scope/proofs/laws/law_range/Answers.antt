use Rattle.bbm_tlbi_scope.proofs.Ranging.{range_takes, range_covers, page_covers}
use Rattle.bbm_tlbi_scope.proofs.laws.law_range.Goals as goal

pub returns-clause-taken : goal.returns-clause-taken
returns-clause-taken c = range_takes

pub returns-clause-covered : goal.returns-clause-covered
returns-clause-covered c = range_covers

pub returns-clause-wider : goal.returns-clause-wider
returns-clause-wider c = page_covers
