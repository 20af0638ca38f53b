use Rattle.bbm_rules.proofs.Common.{sym, ◌∙◌}
use Rattle.bbm_oracle_patterns.proofs.Stops.{never}
use Rattle.bbm_oracle_patterns.proofs.trace.cleansed_for.Goals as goal

pub returns-else-is_written : goal.returns-else-is_written
returns-else-is_written c = λ before.
    never c.args.header.now c.args.place c.args.covering c.none.result before c.args.later.now c.has_every_pe.result c.none.ensures
    (sym c.is_written.ensures ∙ c.if-is_written.false) c.has_every_pe.ensures
