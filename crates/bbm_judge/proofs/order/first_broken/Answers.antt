use Rattle.bbm_rules.proofs.Common.{Option, Err, sym, ◌∙◌, subst, arith, err_from_is_err_and, Breach}
use Rattle.bbm_rules.specs.declared.rule.Rule.TheVariants.{WrongWorld}
use Rattle.bbm_oracle_trees.specs.Past.{notes}
use Rattle.bbm_judge.specs.Judges.{Judges}
use Rattle.bbm_judge.proofs.RuleLemmas.{first_at, judges_first}
use Rattle.bbm_judge.proofs.order.first_broken.Goals as goal

pub returns-in_err-judge_by : goal.returns-in_err-judge_by
returns-in_err-judge_by g c =
    let p = err_from_is_err_and c.from_residual.result c.from_residual.ensures.1 in
    let P : Option Breach → Type 0 = λ b. Judges (Err c.in_err-judge_by.field-0.0) b in
    let past = c.args.history.now in
    rw (p.1, p.2)
    (subst P
    (sym (first_at past.heading past.trust (notes past) c.args.event.now c.args.rules.now c.loop-rule.rule-index WrongWorld (omega arith))
    ∙ c.loop-rule.invariant)
    (judges_first c.in_err-judge_by.field-0.0 _ _ c.in_err-judge_by.ensures))
