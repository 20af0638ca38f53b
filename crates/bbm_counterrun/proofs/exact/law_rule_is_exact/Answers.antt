use Rattle.bbm_rules.proofs.Common.{List, Option, None, subst, Write}
use Rattle.bbm_counterrun.proofs.Common.{Patterns, Step}
use Rattle.bbm_counterrun.specs.Plans.{Finds}
use Rattle.bbm_counterrun.proofs.OpenWalks.{open_is_plain}
use Rattle.bbm_counterrun.proofs.ReachedOpen.{reached_is_open}
use Rattle.bbm_counterrun.proofs.exact.law_rule_is_exact.Goals as goal

pub returns-clause-run : goal.returns-clause-run
returns-clause-run c heading h pe place value p log refused o =
    open_is_plain heading (c.known.ensures heading Patterns log.header) (c.law_fine_steps.ensures heading Patterns log.header) h log refused.kept place p o
    (c.law_plain_is_tested.ensures heading) (c.law_tree_step.ensures heading Patterns) pe value refused

pub returns-clause-found : goal.returns-clause-found
returns-clause-found c heading h pe place value p found log refused o finds none =
    let plain = open_is_plain heading (c.known.ensures heading Patterns log.header) (c.law_fine_steps.ensures heading Patterns log.header) h log refused.kept place p o
    (c.law_plain_is_tested.ensures heading) (c.law_tree_step.ensures heading Patterns) pe value refused in
    let nothing : Finds heading h (Write pe place value) None
    = subst (λ (f : Option (List Step)). Finds heading h (Write pe place value) f) none finds in
    nothing plain.0 plain.1

pub returns-clause-open : goal.returns-clause-open
returns-clause-open c heading h place p log = reached_is_open heading (c.known.ensures heading Patterns log.header) h place p
