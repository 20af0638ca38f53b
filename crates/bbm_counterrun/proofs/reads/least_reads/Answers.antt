use Rattle.bbm_rules.proofs.Common.{reverse, sym, ◌∙◌, ap}
use Rattle.bbm_counterrun.proofs.Common.{Goal, least_read}
use Rattle.bbm_counterrun.proofs.ReadCode.{reads_more}
use Rattle.bbm_counterrun.proofs.reads.least_reads.Goals as goal

pub loop-goal-preserved : goal.loop-goal-preserved
loop-goal-preserved c =
    let heading = c.args.header.now in
    let h = reverse c.args.events.now in
    let least = ap (least_read heading h c.args.pe) (sym c.goal.view_is) ∙ sym c.least_read.ensures ∙ c.in-Some.is in
    record {
      rest = reads_more heading h c.args.pe c.args.way.now c.loop-goal.goal-index c.goal-item.result _ c.loop-goal.reads.items _ _
          c.loop-goal-test.true c.goal-item.is least (ap (λ (g : Goal). g.place) c.goal.view_is) c.loop-goal.invariant.rest
          c.in_ok-push-in-Some.ensures.items;
    }
