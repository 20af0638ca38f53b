use Rattle.bbm_lemmas.proofs.Reversed.{reverse_more}
use Rattle.bbm_counterrun.proofs.answers.answers_of.Goals as goal

pub loop-n-preserved : goal.loop-n-preserved
loop-n-preserved c =
    rw (← reverse_more c.args.events.now c.loop-n.n c.index-events-n.result c.loop-n-test.true c.index-events-n.is) (record {
      pending = c.in_ok-take.ensures.pending c.loop-n.invariant.pending;
      answers = c.in_ok-take.ensures.answers c.loop-n.invariant.pending c.loop-n.invariant.answers;
    })
