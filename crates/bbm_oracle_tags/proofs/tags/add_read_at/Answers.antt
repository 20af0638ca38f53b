use Rattle.bbm_rules.proofs.Common.{take, reverse, sym, arith, true≢false}
use Rattle.bbm_lemmas.proofs.Reversed.{reverse_more}
use Rattle.bbm_oracle_tags.proofs.tags.add_read_at.Goals as goal

pub loop-event-init : goal.loop-event-init
loop-event-init c = record {
  moment = c.in_ok-moment.ensures c.args.header.now.world c.args.pe;
  kept = λ g k. k;
  added = λ g k. absurd (true≢false (sym k));
}

pub loop-event-preserved : goal.loop-event-preserved
loop-event-preserved c =
    let h = reverse (take c.loop-event.event-index c.args.events.now) in
    let old = c.loop-event.invariant in
    let moment = c.in_ok-take.ensures h old.moment in
    let more = reverse_more c.args.events.now c.loop-event.event-index c.event-item.result
    (omega arith) c.event-item.is in
    rw (← more) (record {
      moment = moment;
      kept = λ g k. c.in_ok-add_read_now.ensures.kept g (old.kept g k);
      added = c.in_ok-add_read_now.ensures.added c.args.pe h moment old.added;
    })
