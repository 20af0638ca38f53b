use Rattle.bbm_rules.proofs.Common.{◌<◌, suc, length, ap, ◌∙◌, arith}
use Rattle.bbm_certify.proofs.Finished.{making_next}
use Rattle.bbm_certify.proofs.making.Making.take.Goals as goal
use Rattle.bbm_oracle_patterns.proofs.KeptNotes.{length_notes}

pub due-requires-clause-few : goal.due-requires-clause-few
due-requires-clause-few c =
    let few : suc (length c.args.self.now.history.kept) < 4294967296 = c.requires.few in
    omega (
      arith,
      few,
      ap length c.in_ok-take.ensures.taken,
      length_notes c.take.new.self.kept,
      length_notes c.args.self.now.history.kept,
    )

pub returns-clause-stands : goal.returns-clause-stands
returns-clause-stands c = λ h was kept.
    let heading = c.args.header.now in
    let known = c.known.ensures heading c.in_ranges.ensures in
    let after = c.in_ok-take.ensures.stands heading h was.history.kept in
    making_next heading known c.args.self.now h c.args.event.now
    (record { history = c.take.new.self; places = c.add_written.new.places; known = c.add_known.new.known }) was kept
    (record { trust_is = c.in_ok-take.ensures.trust ∙ was.history.trust_is; kept = after }) c.in_ok-add_written.ensures
    (λ written all. c.in_ok-add_known.ensures h (c.events.ensures ∙ after.events_are) written all)
