use Rattle.bbm_counterrun.proofs.Common.{StandsFor}
use Rattle.bbm_rules.proofs.Common.{List, take, reverse, subst, ◌∙◌, Event, reverse_more}
use Rattle.bbm_counterrun.proofs.leaf.history_of.Goals as goal

pub loop-event-preserved : goal.loop-event-preserved
loop-event-preserved c = record {
  heading = c.take.ensures.heading ∙ c.loop-event.invariant.heading;
  trust = c.take.ensures.trust ∙ c.loop-event.invariant.trust;
  stands = subst (λ (h : List Event). StandsFor c.take.new.self c.args.header.now h)
      (reverse_more c.args.events.now c.loop-event.event-index c.event-item.result c.loop-event-test.true c.event-item.is)
      (c.in_ok-take.ensures.stands c.args.header.now (reverse (take c.loop-event.event-index c.args.events.now))
      c.loop-event.invariant.stands);
}
