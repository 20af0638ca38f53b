use Rattle.bbm_rules.proofs.Common.{err_from_is_err_and, limit_of}
use Rattle.bbm_judge.proofs.RuleLemmas.{answers_broken, answers_limit}
use Rattle.bbm_judge.proofs.order.admit.Goals as goal

pub returns-in_err-judge : goal.returns-in_err-judge
returns-in_err-judge g c = λ heading h s.
    let p = err_from_is_err_and c.from_residual.result c.from_residual.ensures.1 in
    rw (p.1, p.2)
    (answers_broken c.in_err-judge.field-0.0 _ (limit_of h c.args.event.now) (c.in_err-judge.ensures heading h s))

pub returns : goal.returns
returns g c = λ heading h s.
    answers_limit c.check_limit.result _ (limit_of h c.args.event.now) (c.in_ok-judge.ensures heading h s) (c.check_limit.ensures heading h s)
