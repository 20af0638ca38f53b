use Rattle.bbm_rules.proofs.Common.{◌∷◌, sym, ◌∙◌}
use Rattle.bbm_oracle_tags.proofs.MomentLemmas.{reads-by, reads-some-by, same-reads, same-reads-some}
use Rattle.bbm_oracle_tags.proofs.watch.Watch.look.Goals as goal

pub returns-in_ok-readings-clause-looks : goal.returns-in_ok-readings-clause-looks
returns-in_ok-readings-clause-looks c = λ h k.
    let moment = c.in_ok-take.ensures h k.moment in record {
      moment = moment;
      reads = c.is_read-self.ensures
          ∙ reads-by c.args.header.now (c.args.event.now ∷ h) c.args.asked.now.pe c.take.new.self c.deref.result.now
          c.args.asked.now.tag c.args.asked.now.root moment
          (c.deref.ensures.value ∙ c.in_ok-readings.ensures);
      reads_some = c.is_read_for_some-self.ensures
          ∙ reads-some-by c.args.header.now (c.args.event.now ∷ h) c.args.asked.now.pe c.take.new.self
          c.deref-then-changes_readings.result.now c.args.asked.now.tag moment
          (c.deref-then-changes_readings.ensures.value ∙ c.in_ok-readings.ensures);
    }

pub returns-else-changes_readings-clause-looks : goal.returns-else-changes_readings-clause-looks
returns-else-changes_readings-clause-looks c = λ h k. record {
  moment = c.in_ok-take.ensures h k.moment;
  reads = k.reads ∙ sym (same-reads c.args.header.now c.args.event.now h c.args.asked.now.pe c.args.asked.now.tag
      c.args.asked.now.root
      (sym c.changes_readings.ensures ∙ c.if-changes_readings.false));
  reads_some = k.reads_some ∙ sym (same-reads-some c.args.header.now c.args.event.now h c.args.asked.now.pe
      c.args.asked.now.tag
      (sym c.changes_readings.ensures ∙ c.if-changes_readings.false));
}
