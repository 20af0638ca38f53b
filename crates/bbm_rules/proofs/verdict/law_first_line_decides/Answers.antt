use Rattle.bbm_rules.proofs.Folds.{by_line, by_end, one_decides}
use Rattle.bbm_rules.specs.Outcome.{AtHeader, judging}
use Rattle.bbm_rules.proofs.verdict.law_first_line_decides.Goals as goal

pub returns-clause-by_line : goal.returns-clause-by_line
returns-clause-by_line c trust limits = by_line (judging trust limits) 1 AtHeader

pub returns-clause-by_end : goal.returns-clause-by_end
returns-clause-by_end c trust limits = by_end (judging trust limits) 1 AtHeader

pub returns-clause-one_decides : goal.returns-clause-one_decides
returns-clause-one_decides c trust limits = one_decides (judging trust limits) 1 AtHeader
