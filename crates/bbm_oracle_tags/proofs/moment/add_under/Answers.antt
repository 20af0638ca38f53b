use Rattle.bbm_rules.proofs.Common.{arith, tag_number}
use Rattle.bbm_regimes.specs.declared.regime.Kind.TheVariants.{Ttbr0}
use Rattle.bbm_regimes.specs.declared.regime.Tag.TheVariants.{Asid}
use Rattle.bbm_oracle_tags.specs.Moments.{reading_in}
use Rattle.bbm_oracle_tags.proofs.MomentLemmas.{readings-more}
use Rattle.bbm_oracle_tags.proofs.moment.add_under.Goals as goal

pub loop-value-preserved : goal.loop-value-preserved
loop-value-preserved c =
    readings-more (reading_in c.args.roots.now Ttbr0 (Asid (tag_number c.args.from))) c.args.values.now
    c.loop-value.value-index 0
    c.add_reading.new.readings.items c.loop-value.readings.items c.args.readings.now.items
    (omega arith) c.loop-value.invariant
    (rw c.tag_number.ensures at c.in_ok-add_reading.ensures)
