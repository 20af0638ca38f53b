use Rattle.bbm_rules.proofs.Common.{sym, ◌∙◌}
use Rattle.bbm_oracle_patterns.proofs.Walks.{trace_unwritten}
use Rattle.bbm_oracle_patterns.proofs.trace.trace_for.Goals as goal

pub returns-else-is_written-clause-seen : goal.returns-else-is_written-clause-seen
returns-else-is_written-clause-seen c = λ before p.
    (trace_unwritten c.args.header.now c.args.place c.none.result c.none.ensures c.args.covering before c.args.later.now
    (sym c.is_written.ensures ∙ c.if-is_written.false)).seen_at p

pub returns-else-is_written-clause-half : goal.returns-else-is_written-clause-half
returns-else-is_written-clause-half c = λ before p.
    (trace_unwritten c.args.header.now c.args.place c.none-else-is_written.result c.none-else-is_written.ensures
    c.args.covering before c.args.later.now (sym c.is_written.ensures ∙ c.if-is_written.false)).half_at p

pub returns-else-is_written-clause-cleansed : goal.returns-else-is_written-clause-cleansed
returns-else-is_written-clause-cleansed c = λ before p.
    (trace_unwritten c.args.header.now c.args.place c.none-else-is_written-2.result c.none-else-is_written-2.ensures
    c.args.covering before c.args.later.now (sym c.is_written.ensures ∙ c.if-is_written.false)).cleansed_at p
