use Rattle.bbm_rules.proofs.Common.{sym, ◌∙◌, on_ok_weaker}
use Rattle.bbm_idle.proofs.FindTags.{known_more, known_still}
use Rattle.bbm_idle.proofs.find_tags.add_known.Goals as goal

pub returns-then-changes_readings : goal.returns-then-changes_readings
returns-then-changes_readings c = on_ok_weaker c.add_readable.result
    (λ added. λ h are known. known_more c.args.header.now c.args.event.now h _ _ _ are known added)
    c.add_readable.ensures

pub returns-else-changes_readings : goal.returns-else-changes_readings
returns-else-changes_readings c = λ h are known.
    known_still c.args.header.now c.args.event.now h _ (sym c.changes_readings.ensures ∙ c.if-changes_readings.false) known
