use Rattle.bbm_rules.proofs.Common.{◌++◌, ◌∙◌, ap, option_to_list, arith}
use Rattle.bbm_rules.specs.RegisterValues.{Standing}
use Rattle.bbm_oracle_tags.specs.Moments.{standing_reading}
use Rattle.bbm_oracle_tags.proofs.MomentLemmas.{readings-more}
use Rattle.bbm_oracle_tags.proofs.moment.add_standings.Goals as goal

pub loop-standing-preserved : goal.loop-standing-preserved
loop-standing-preserved c =
    readings-more (standing_reading c.args.roots.now) c.args.standings.now c.loop-standing.standing-index
    c.standing-item.result c.add_reading.new.readings.items c.loop-standing.readings.items
    c.args.readings.now.items (omega arith) c.loop-standing.invariant
    ((rw c.tag_number.ensures at c.in_ok-add_reading.ensures)
    ∙ ap (λ (s : Standing). c.loop-standing.readings.items
    ++ option_to_list (standing_reading c.args.roots.now s)) (c.standing.view_is ∙ c.standing-item.is))
