use Rattle.bbm_rules.proofs.Common.{Write}
use Rattle.bbm_counterrun.proofs.FirstOfLeast.{one_plan, one_run}
use Rattle.bbm_counterrun.proofs.laws.law_one_run.Goals as goal

pub returns-clause-plan : goal.returns-clause-plan
returns-clause-plan c heading h pe place value one other is_log kept leaf =
    one_plan heading h (Write pe place value) place (λ plan plain. c.law_least_reads.ensures heading h pe place value plan is_log kept leaf
    ((c.law_plain_is_tested.ensures heading h (Write pe place value) plan).0 plain)) one other

pub returns-clause-run : goal.returns-clause-run
returns-clause-run c heading h pe place value one other is_log kept leaf =
    one_run heading h (Write pe place value) place (λ plan plain. c.law_least_reads.ensures heading h pe place value plan is_log kept leaf
    ((c.law_plain_is_tested.ensures heading h (Write pe place value) plan).0 plain)) one other
