use Rattle.bbm_counterrun.proofs.Common.{answer_at, is_answered}
use Rattle.bbm_rules.proofs.Common.{sym, ◌∙◌, ap}
use Rattle.bbm_counterrun.proofs.MapCode.{kept_next, left_next}
use Rattle.bbm_counterrun.proofs.answers.add_answers.Goals as goal
use Rattle.bbm_counterrun.proofs.answers.add_answers.Goals.{then-is_answered+in_ok-push, else-is_answered}

pub loop-pending-preserved : goal.loop-pending-preserved
loop-pending-preserved c =
    let test = is_answered c.args.pe c.args.dsb in
    let i = c.loop-pending.pending-index in
    record {
      rest = elim c.if-is_answered.branch [
        | then-is_answered+in_ok-push w ↦ kept_next test (answer_at c.args.before) c.args.pendings.now i c.pending-item.result
            w.answer_of.result c.loop-pending.answers.items c.if-is_answered.answers.items _ c.loop-pending-test.true c.pending-item.is
            (sym c.is_answered.ensures ∙ w.if-is_answered.true) w.answer_of.ensures c.loop-pending.invariant.rest
            (ap (λ v. v.items) w.answers-is ∙ w.in_ok-push.ensures.items)
        | else-is_answered w ↦ left_next test (answer_at c.args.before) c.args.pendings.now i c.pending-item.result
            c.loop-pending.answers.items c.if-is_answered.answers.items _ c.loop-pending-test.true c.pending-item.is
            (sym c.is_answered.ensures ∙ w.if-is_answered.false) c.loop-pending.invariant.rest (ap (λ v. v.items) w.answers-is)
      ];
    }
