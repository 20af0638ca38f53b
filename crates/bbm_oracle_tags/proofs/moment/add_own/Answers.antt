use Rattle.bbm_rules.proofs.Common.{arith}
use Rattle.bbm_oracle_tags.specs.Moments.{own_reading}
use Rattle.bbm_oracle_tags.proofs.MomentLemmas.{readings-more}
use Rattle.bbm_oracle_tags.proofs.moment.add_own.Goals as goal

pub loop-value-preserved : goal.loop-value-preserved
loop-value-preserved c =
    readings-more (own_reading c.args.roots.now c.args.kind) c.args.values.now c.loop-value.value-index 0
    c.add_reading.new.readings.items c.loop-value.readings.items c.args.readings.now.items
    (omega arith) c.loop-value.invariant
    (rw (c.tag_of.ensures, c.tag_number.ensures) at c.in_ok-add_reading.ensures)
